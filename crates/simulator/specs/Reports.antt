-- What `order` writes.
use Rattle.std.specs.Prelude.{ℕ, List, ◌++◌, length}
use Rattle.std.specs.List.{flat_map}
use Rattle.maildrop.specs.declared.command.Command.{Command}
use Rattle.script.specs.Output.{performed_line, slot_line}

module _ {A : Type 0} where
  -- a line for each command that a node has performed, with its slot
  abbrev pub slot_lines : List (ℕ × Command A) → List ℕ
  slot_lines performed = flat_map (λ e. slot_line e.0 e.1) performed

  -- how many a node has performed, and then each
  abbrev pub order_lines : ℕ → List (ℕ × Command A) → List ℕ
  order_lines node performed = performed_line node (length performed) ++ slot_lines performed
