-- The laws of a die in memory.
use Rattle.std.proofs.Common.{◌≡◌, ◌⊎◌, inl, inr, ℕ, Bool, true, false, not, ◌&&◌, List, refl, sym, ◌∙◌, ap, arith, Option, Some, None, [], ◌∷◌, length, ◌<◌}
use Rattle.std.specs.Prelude.{slice_get, ◌↔◌, slice_set, is_some, IsSome}
use Rattle.std.proofs.lemmas.Bool.{cases_order, true≢false, false≢true, and_left}
use Rattle.std.proofs.lemmas.List.{set-get_or}
use Rattle.page_layout.specs.declared.geometry.Geometry.{Geometry}
use Rattle.page_layout.specs.Page.{Page}
use Rattle.page_layout.specs.Flash.{after, may_program, may_erase, page_at, no_page}
use Rattle.onfi_cycles.specs.Cycles.{status_of}
use Rattle.nand_die.specs.declared.fault.Fault.{Fault}
use Rattle.nand_die.specs.Faults.{left_by}
use Rattle.nand_die.specs.NextPages.{left_page}
use Rattle.nand_die.specs.ChipValue.{fault_next, erase_passes}
use Rattle.nand_die.specs.Laws.{ProgramPassesLaw, ErasePassesLaw, ProgramAbuseLaw, EraseAbuseLaw, CountLaw, QuietLaw, NamedLaw, NoneMisnamedLaw}
use Rattle.nand_die.specs.Laws.{OneMisnamedLaw, NoneWrongLaw, OneWrongLaw}
use Rattle.nand_die.proofs.LeftLemmas.{refused_block}
use Rattle.nand_die.proofs.MakeLemmas.{contains_named, named_contains}
use Rattle.std.proofs.lemmas.Option.{same_Some}
use Rattle.nand_die.specs.declared.fault.DieFault.{DieFault}
use Rattle.nand_die.specs.declared.fault.DieFault.TheVariants.{WrongLength, BadMark, OutOfMemory, SoundFaultPage}
use Rattle.nand_die.specs.Faults.{IsPageLeft, IsWrongPageLeft}

-- a status, by whether the operation was legal and whether a fault was due
passes_by : (may : Bool) (o : Option Fault) →
    ((status_of (may && not (is_some o)) ≡ 0xE0) ↔ ((may ≡ true) × (o ≡ None))) × ((status_of (may && not (is_some o)) ≡ 0xE1) ↔ ((may ≡ false) ⊎ IsSome o))
passes_by true None = ((λ e. (refl, refl), λ h. refl), (λ e. absurd (omega (arith, e)), λ h. elim h [ inl f ↦ absurd (true≢false f) | inr s ↦ absurd (false≢true s) ]))
passes_by true (Some f) = ((λ e. absurd (omega (arith, e)), λ h. absurd (some_none h.1)), (λ e. inr refl, λ h. refl))
  where
    some_none : Some f ≡ None → ⊥
    some_none h = cc
passes_by false None = ((λ e. absurd (omega (arith, e)), λ h. absurd (false≢true h.0)), (λ e. inl refl, λ h. refl))
passes_by false (Some f) = ((λ e. absurd (omega (arith, e)), λ h. absurd (false≢true h.0)), (λ e. inl refl, λ h. refl))

pub program_passes_law : ProgramPassesLaw
program_passes_law d row page = passes_by (may_program d.state.flash row) (fault_next d)

pub erase_passes_law : ErasePassesLaw
erase_passes_law d block = passes_by (may_erase d.state.flash block) (fault_next d)

illegal_left : (g : Geometry) (old page : Page) (may struck : Bool) (left : List ℕ) → may ≡ false → left_page g old may (may && struck) page left ≡ old
illegal_left g old page may struck left e = ap (λ b. left_page g old b (b && struck) page left) e

pub program_abuse_law : ProgramAbuseLaw
unfolding after
program_abuse_law d row page = (
  refl,
  λ illegal lt.
      ap (slice_set d.state.flash.image row) (illegal_left d.state.flash.geometry (page_at d.state.flash row) page (may_program d.state.flash row) (not (is_some (fault_next d))) (left_by (fault_next d)) illegal)
      ∙ set-get_or d.state.flash.image row no_page,
)

pub erase_abuse_law : EraseAbuseLaw
unfolding after
erase_abuse_law d block = (
  refl,
  λ illegal.
      sym (refused_block d.state.flash.geometry d.state.flash.image block (may_erase d.state.flash block) (erase_passes d block) (left_by (fault_next d)) (and_left (may_erase d.state.flash block) (not (is_some (fault_next d))) illegal) illegal),
)

pub count_law : CountLaw
count_law d = (λ row page. (refl, refl), λ block. (refl, refl))

pub quiet_law : QuietLaw
quiet_law d = (λ phase. (refl, refl, refl), (refl, refl, refl), λ fault. (refl, refl, refl))

pub named_law : NamedLaw
named_law names block = (contains_named names block, named_contains names block)

pub none_misnamed_law : NoneMisnamedLaw
none_misnamed_law g names block right wrong = right wrong.at block wrong.misnamed

pub one_misnamed_law : OneMisnamedLaw
one_misnamed_law g names a b x y = elim (cases_order x.at y.at) [
  | inl e ↦ same_Some a b (sym x.misnamed.here ∙ (ap (slice_get names) e ∙ y.misnamed.here))
  | inr o ↦ elim o [
    | inl lt ↦ absurd (y.first x.at a lt x.misnamed)
    | inr gt ↦ absurd (x.first y.at b gt y.misnamed)
  ]
]

-- bytes that may be left are not refused
left_or_wrong : (g : Geometry) (left : List ℕ) (why : DieFault) → IsPageLeft g left → ¬ IsWrongPageLeft g left why
left_or_wrong g left WrongLength fair wrong = wrong.1 (fair.size wrong.0)
left_or_wrong g left (BadMark block) fair wrong = wrong
left_or_wrong g left OutOfMemory fair wrong = wrong
left_or_wrong g left SoundFaultPage fair wrong =
    let some : 0 < length left = omega (arith, wrong.0, g.limits.data_size.least) in
    false≢true (ap is_some (sym (fair.unsound some)) ∙ wrong.1)

one_reason : (g : Geometry) (left : List ℕ) (a b : DieFault) → IsWrongPageLeft g left a → IsWrongPageLeft g left b → a ≡ b
one_reason g left WrongLength WrongLength x y = refl
one_reason g left SoundFaultPage SoundFaultPage x y = refl
one_reason g left WrongLength SoundFaultPage x y = absurd (x.1 y.0)
one_reason g left SoundFaultPage WrongLength x y = absurd (y.1 x.0)
one_reason g left (BadMark block) b x y = absurd x
one_reason g left OutOfMemory b x y = absurd x
one_reason g left WrongLength (BadMark block) x y = absurd y
one_reason g left WrongLength OutOfMemory x y = absurd y
one_reason g left SoundFaultPage (BadMark block) x y = absurd y
one_reason g left SoundFaultPage OutOfMemory x y = absurd y

pub none_wrong_law : NoneWrongLaw
none_wrong_law g [] why fair wrong = wrong
none_wrong_law g (f ∷ fs) why fair wrong = elim wrong [
  | inl here ↦ left_or_wrong g f.page_left.items why fair.0 here
  | inr later ↦ none_wrong_law g fs why fair.1 later.1
]

pub one_wrong_law : OneWrongLaw
one_wrong_law g [] a b x y = absurd x
one_wrong_law g (f ∷ fs) a b x y = elim x [
  | inl here ↦ elim y [
    | inl too ↦ one_reason g f.page_left.items a b here too
    | inr later ↦ absurd (left_or_wrong g f.page_left.items a later.0 here)
  ]
  | inr rest ↦ elim y [
    | inl here ↦ absurd (left_or_wrong g f.page_left.items b rest.0 here)
    | inr later ↦ one_wrong_law g fs a b rest.1 later.1
  ]
]
