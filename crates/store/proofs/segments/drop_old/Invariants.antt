use Rattle.std.proofs.Common.{◌≡◌, Some, max, take}
use Rattle.store.specs.Folders.{FolderContent}
use Rattle.store.proofs.Dropping.{is_kept, left_after}
use Rattle.store.proofs.segments.drop_old.Given as goal

-- of those that were looked at the newest are left
abbrev pub invariant-loop-number : goal.invariant-loop-number
invariant-loop-number g l = (c : FolderContent) → g.F.Folder.content l.fn.folder ≡ Some c
    → g.F.Folder.content l.folder ≡ Some (record c { files = left_after (is_kept (max l.keep 1) l.number-items) (take l.number-index l.number-items) c.files })
