-- What a driver tells of its programs and erases, beside what its bus tells.
use Rattle.std.specs.Prelude.{◌≡◌, ◌≢◌, ◌⊎◌, List, [], ◌∷◌, ◌++◌, Option, Some, None}
use Rattle.page_layout.specs.Flash.{Flash, Operation}
use Rattle.page_layout.specs.Recording.{Recording, Records, RecordsOrEnds, IsRecordOf}
use Rattle.onfi_cycles.specs.Driver.{gained, untouched}

-- A DRIVER TELLS A RECORD at each moment, which is its own
abbrev pub AlwaysTellsLaw : {Outer : Type 0} → (tells : Outer → Option Recording) → (told : Outer → Recording) → Type 0
AlwaysTellsLaw {Outer} tells told = (outer : Outer) → tells outer ≡ Some (told outer)

-- what is told of the bus is what its driver tells, or has ended
abbrev pub TellsSame : Recording → Option Recording → Type 0
TellsSame own behind = (behind ≡ None) ⊎ (behind ≡ Some own)

-- and so it stays after each operation that both gain
abbrev pub AgreeingLaw : Type 0
AgreeingLaw = (own : Recording) (behind behind' : Option Recording) (op : Operation) → TellsSame own behind → RecordsOrEnds behind (op ∷ []) behind' → TellsSame (gained op own) behind'

-- THE RECORD OF A DIE TO WHICH NOTHING WAS DONE YET tells of it. There is nothing in its log, and nothing is at hand.
abbrev pub UntouchedLaw : Type 0
UntouchedLaw = (s : Flash) → IsRecordOf s (Some (untouched s)) × ((untouched s).log ≡ []) × ((untouched s).at_hand ≡ [])

-- WHAT IS DONE BEHIND A FAULT stands behind the operation that was at hand then, all of it and in its order. Without a fault nothing comes to be at hand, whatever is done.
abbrev pub BehindFaultLaw : Type 0
BehindFaultLaw = (r s : Recording) (log : List Operation) → Records (Some r) log (Some s) → (r.at_hand ≡ [] → s.at_hand ≡ []) × (r.at_hand ≢ [] → s.at_hand ≡ r.at_hand ++ log)
