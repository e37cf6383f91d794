mod FramesInARow
