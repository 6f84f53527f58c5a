-- Cycles that are all due and end in no operation lead the die to a phase.
use Rattle.std.proofs.Common.{◌≡◌, List, [], ◌∷◌, ◌++◌, refl, sym, ◌∙◌, ap, subst, inl, inr}
use Rattle.page_layout.specs.declared.geometry.Geometry.{Geometry}
use Rattle.onfi_cycles.specs.Cycles.{DieState, Phase, Ready, NoOutput, Cycle, Does, FailsBy, Due, Moves, Resets, Programs, Erases, Refuses, due_of}
use Rattle.onfi_cycles.specs.Cycles.{to_phase, given_up}
use Rattle.onfi_cycles.specs.Spelling.{Taken, FailsIn}
use Rattle.onfi_cycles.specs.declared.nand.BusFault.{BusFault}
use Rattle.onfi_cycles.specs.declared.nand.BusFault.TheVariants.{NoReset, UnknownCommand, OutOfTurn, AddressRange, ColumnRange, Device}

-- what isn't refused
abbrev pub IsDue : Due → Type 0
IsDue (Moves phase) = Unit {0}
IsDue Resets = Unit {0}
IsDue (Programs row page) = Unit {0}
IsDue (Erases block) = Unit {0}
IsDue (Refuses fault) = ⊥

-- a phase in which a fault leaves the die ready
abbrev pub IsReset : Phase → Type 0
IsReset phase = given_up phase ≡ Ready NoOutput

refusal : (due : Due) (fault : BusFault) → IsDue due → due ≡ Refuses fault → ⊥
refusal due fault is e = subst IsDue e is

-- a cycle that is due fails by the device alone
pub due_fails : (due : Due) (a b : DieState) (fault : BusFault) → IsDue due → FailsBy due a b fault → (fault ≡ Device) × (b.phase ≡ given_up a.phase)
due_fails due a b Device is h = (refl, h)
due_fails due a b NoReset is h = absurd (refusal due NoReset is h.0)
due_fails due a b UnknownCommand is h = absurd (refusal due UnknownCommand is h.0)
due_fails due a b OutOfTurn is h = absurd (refusal due OutOfTurn is h.0)
due_fails due a b AddressRange is h = absurd (refusal due AddressRange is h.0)
due_fails due a b ColumnRange is h = absurd (refusal due ColumnRange is h.0)

-- the same where it is known what is due
pub known_fails : (due as_due : Due) (a b : DieState) (fault : BusFault) → due ≡ as_due → IsDue as_due → IsReset a.phase → FailsBy due a b fault → (fault ≡ Device) × (b.phase ≡ Ready NoOutput)
known_fails due as_due a b fault e is up h = let r = due_fails as_due a b fault is (subst (λ d. FailsBy d a b fault) e h) in (r.0, r.1 ∙ up)

-- each cycle in turn is due, moves the die on, and could be given up
abbrev pub LeadTo : Geometry → Phase → List Cycle → Phase → Type 0
LeadTo g p [] q = q ≡ p
LeadTo g p (c ∷ cs) q = (m : Phase) × (due_of g p c ≡ Moves m) × IsReset m × LeadTo g m cs q

pub lead_then : (g : Geometry) (p m q : Phase) (xs ys : List Cycle) → LeadTo g p xs m → LeadTo g m ys q → LeadTo g p (xs ++ ys) q
lead_then g p m q [] ys l k = subst (λ x. LeadTo g x ys q) l k
lead_then g p m q (x ∷ xs) ys l k = (l.0, l.1, l.2, lead_then g l.0 m q xs ys l.3 k)

pub moved : (a b : DieState) (due : Due) (p : Phase) → due ≡ Moves p → Does due a b → b ≡ to_phase p a
moved a b due p e h = subst (λ d. Does d a b) e h

-- where the cycles were taken, the die is there
pub lead_taken : (a b : DieState) (xs : List Cycle) (q : Phase) → LeadTo a.flash.geometry a.phase xs q → Taken a xs b → b ≡ to_phase q a
lead_taken a b [] q l t = t ∙ ap (λ p. to_phase p a) (sym l)
lead_taken a b (x ∷ xs) q l t =
    let at : t.0 ≡ to_phase l.0 a = moved a t.0 (due_of a.flash.geometry a.phase x) l.0 l.1 t.1 in
    lead_taken t.0 b xs q (subst (λ (d : DieState). LeadTo d.flash.geometry d.phase xs q) (sym at) l.3) t.2 ∙ ap (to_phase q) at

-- where one failed, it was the device, and the die is ready
pub lead_fails : (a b : DieState) (xs : List Cycle) (q : Phase) (fault : BusFault) → IsReset a.phase → LeadTo a.flash.geometry a.phase xs q → FailsIn a xs fault b
    → (fault ≡ Device) × (b.phase ≡ Ready NoOutput)
lead_fails a b [] q fault up l t = absurd t
lead_fails a b (x ∷ xs) q fault up l (inl t) = known_fails (due_of a.flash.geometry a.phase x) (Moves l.0) a b fault l.1 tt up t
lead_fails a b (x ∷ xs) q fault up l (inr t) =
    let at : t.0 ≡ to_phase l.0 a = moved a t.0 (due_of a.flash.geometry a.phase x) l.0 l.1 t.1 in
    lead_fails t.0 b xs q fault (ap (λ (d : DieState). given_up d.phase) at ∙ l.2) (subst (λ (d : DieState). LeadTo d.flash.geometry d.phase xs q) (sym at) l.3) t.2
