-- What was asked of a bus, honest or not: cycles one after another, each with its answer and the bytes that it put out. `called` is the
-- bus's own word for one cycle.
use Rattle.std.specs.Prelude.{◌≡◌, ◌⊎◌, ℕ, List, [], ◌∷◌, ◌++◌, Result, Ok, Err}
use Rattle.onfi_cycles.specs.declared.nand.BusFault.{BusFault}
use Rattle.onfi_cycles.specs.declared.nand.Outcome.{Outcome}
use Rattle.page_layout.specs.declared.source.SourceFault.{SourceFault}
use Rattle.onfi_cycles.specs.Outcomes.{bus_fault_number, outcome_of}
use Rattle.onfi_cycles.specs.Cycles.{Cycle}
use Rattle.onfi_cycles.specs.Spelling.{done, refused}

-- just these cycles were asked of the bus, in this order, and each was taken; `out` is all that they put out
abbrev pub Sent : {B : Type 0} → (B → Cycle → Result (Unit {0}) BusFault → List ℕ → B → Type 0) → B → List Cycle → List ℕ → B → Type 0
Sent called old [] out new = (out ≡ []) × (new ≡ old)
Sent {B} called old (cycle ∷ rest) out new =
    (mid : B) × (first : List ℕ) × (later : List ℕ) × (out ≡ first ++ later) × called old cycle done first mid × Sent called mid rest later new

-- the cycles up to one of these were asked of the bus, in this order: that one was refused with the fault, and those before it were taken
abbrev pub SentUntil : {B : Type 0} → (B → Cycle → Result (Unit {0}) BusFault → List ℕ → B → Type 0) → B → List Cycle → BusFault → B → Type 0
SentUntil called old [] fault new = ⊥
SentUntil {B} called old (cycle ∷ rest) fault new =
    ((out : List ℕ) × called old cycle (refused fault) out new) ⊎ ((mid : B) × (out : List ℕ) × called old cycle done out mid × SentUntil called mid rest fault new)

-- a call asked for these cycles, all of them or up to the one with whose fault it answers
abbrev pub Sends : {A B : Type 0} → (B → Cycle → Result (Unit {0}) BusFault → List ℕ → B → Type 0) → B → List Cycle → (A → List ℕ) → Result A BusFault → B → Type 0
Sends called old cycles out (Ok x) new = Sent called old cycles (out x) new
Sends called old cycles out (Err fault) new = SentUntil called old cycles fault new

-- A program's or an erase's: all of them, and the answer is what the one byte says that was put out; or up to the one with whose fault it
-- answers.
abbrev pub Operates : {B : Type 0} → (B → Cycle → Result (Unit {0}) BusFault → List ℕ → B → Type 0) → B → List Cycle → Result Outcome BusFault → B → Type 0
Operates called old cycles answer new =
    ((status : ℕ) × (answer ≡ outcome_of status) × Sent called old cycles (status ∷ []) new) ⊎ ((fault : BusFault) × (answer ≡ Err fault) × SentUntil called old cycles fault new)

-- a page read's, whose fault is the number of the bus's fault
abbrev pub SendsRead : {A B : Type 0} → (B → Cycle → Result (Unit {0}) BusFault → List ℕ → B → Type 0) → B → List Cycle → List ℕ → Result A SourceFault → B → Type 0
SendsRead called old cycles out (Ok x) new = Sent called old cycles out new
SendsRead called old cycles out (Err e) new = (fault : BusFault) × (e.0 ≡ bus_fault_number fault) × SentUntil called old cycles fault new
