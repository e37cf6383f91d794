mod Repeats
mod Runs
