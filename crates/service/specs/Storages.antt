-- What is known of a data folder once it was opened.
use Rattle.std.specs.Prelude.{◌≡◌, ◌⊎◌, ℕ, Option, Some}
use Rattle.std.specs.Option.{option_map}
use Rattle.std.specs.declared.alloc.Global.{Global}
use Rattle.maildrop.specs.Kept.{KeptTable}
use Rattle.batches.specs.Batches.{IsFileOf}
use Rattle.store.specs.Growing.{OpenFile}
use Rattle.store.specs.Segments.{ReadSegment, snapshot_payloads}
use Rattle.store.specs.declared.file_device.FileDevice.{FileDevice}
use Rattle.store.specs.declared.loading.Loaded.{Loaded}
use Rattle.service.specs.declared.storage.Torn.{Torn}

-- what was dropped of a segment that was read
abbrev pub torn_of : Loaded → Option Torn
torn_of loaded = option_map (λ dropped. record { segment = loaded.number; at = dropped.at; bytes = dropped.bytes }) loaded.dropped

-- the segment that an epoch begins with has the bytes that were read, or else it is a new one with what is kept
abbrev pub IsOpened : Option ReadSegment → KeptTable Global → ℕ → OpenFile FileDevice → Type 0
IsOpened read kept keys segment =
    ((found : ReadSegment) × (read ≡ Some found) × (segment.device.history.calls.synced ≡ found.bytes))
    ⊎ IsFileOf segment.salt (snapshot_payloads segment.number keys kept) segment.device.history.calls.synced
