-- What goes through the frames of a chip whose reads have wrong bits: the cycles that are asked at one end are asked at the other, one for one.
use Rattle.std.specs.Prelude.{ℕ, List, [], ◌∷◌, Result, refl}
use Rattle.std.proofs.Common.{sym, subst, ap}
use Rattle.onfi_cycles.specs.declared.nand.BusFault.{BusFault}
use Rattle.onfi_cycles.specs.Cycles.{Cycle}
use Rattle.onfi_cycles.specs.Sent as chain
use Rattle.onfi_cycles.specs.Spelling.{done}
use Rattle.stream_bus.specs.Behind.{Behind}
use Rattle.stream_bus.specs.Carried.{CalledBehind, HandsOn, SentAsFrame}
use Rattle.stream_bus.specs.declared.near.Near.{Near}

-- what was asked of one thing was asked of what is behind it
pub chain_of : {A B : Type 0} (behind : A → B) (here : A → Cycle → Result (Unit {0}) BusFault → List ℕ → A → Type 0) (there : B → Cycle → Result (Unit {0}) BusFault → List ℕ → B → Type 0)
    → ((old new : A) (cycle : Cycle) (answer : Result (Unit {0}) BusFault) (out : List ℕ) → here old cycle answer out new → there (behind old) cycle answer out (behind new))
    → (old new : A) (cycles : List Cycle) (out : List ℕ) → chain.Sent here old cycles out new → chain.Sent there (behind old) cycles out (behind new)
chain_of behind here there step old new [] out sent = (sent.0, ap behind sent.1)
chain_of behind here there step old new (cycle ∷ cycles) out sent =
    (behind sent.0, sent.1, sent.2, sent.3, step old sent.0 cycle done sent.1 sent.4, chain_of behind here there step sent.0 new cycles sent.2 sent.5)

-- one cycle at hand
pub handed : {B : Type 0} (called : B → Cycle → Result (Unit {0}) BusFault → List ℕ → B → Type 0) (old new : Near B) (cycle : Cycle) (answer : Result (Unit {0}) BusFault) (out : List ℕ)
    → SentAsFrame (λ (o : Near B) head bytes status out (n : Near B). HandsOn called o.bus head bytes status out n.bus) old cycle answer out new → called old.bus cycle answer out new.bus
handed called old new cycle answer out its = subst (λ a. called old.bus cycle a out new.bus) (sym its.answered) (its.exchanged.0 cycle refl refl its.sized)

-- the frames of a bus are those of its link
pub framed : {L : Type 0} (called : L → List ℕ → List ℕ → ℕ → List ℕ → L → Type 0) (old new : Behind L) (cycles : List Cycle) (out : List ℕ)
    → chain.Sent (CalledBehind called) old cycles out new → chain.Sent (SentAsFrame called) old.link cycles out new.link
framed {L} called old new cycles out sent =
    chain_of (λ (b : Behind L). b.link) (CalledBehind called) (SentAsFrame called) (λ old new cycle answer out one. one.sent) old new cycles out sent

-- those of a link to a bus at hand are the bus's cycles
pub all_handed : {B : Type 0} (called : B → Cycle → Result (Unit {0}) BusFault → List ℕ → B → Type 0) (old new : Near B) (cycles : List Cycle) (out : List ℕ)
    → chain.Sent (SentAsFrame (λ (o : Near B) head bytes status out (n : Near B). HandsOn called o.bus head bytes status out n.bus)) old cycles out new → chain.Sent called old.bus cycles out new.bus
all_handed {B} called old new cycles out sent =
    chain_of (λ (n : Near B). n.bus) (SentAsFrame (λ (o : Near B) head bytes status out (n : Near B). HandsOn called o.bus head bytes status out n.bus)) called (handed called) old new cycles out sent
