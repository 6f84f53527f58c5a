-- Of the faults that stand in the bytes one is the first.
use Rattle.std.proofs.Common.{◌≡◌, ◌≢◌, ℕ, zero, suc, ◌<◌, ◌≤◌, ◌⊎◌, inl, inr, List, length, All, Any, Result, Ok, Err, refl, sym, ap, ◌∙◌, arith}
use Rattle.std.specs.Prelude.{IfOk, IfErr, IsErrAnd}
use Rattle.std.proofs.lemmas.Bool.{cases_order}
use Rattle.std.proofs.lemmas.List.{length-take}
use Rattle.certificate.specs.declared.block_state.BlockState.{BlockState}
use Rattle.certificate.specs.declared.fault.CertFault.{CertFault}
use Rattle.certificate.specs.declared.fault.CertFault.TheVariants.{Magic, Short, Long, Limit, RowRange, ClassRange, OutOfMemory}
use Rattle.certificate.specs.Claim.{Claim}
use Rattle.certificate.specs.Spelling.{layout, Fits, certificate_bytes}
use Rattle.certificate.specs.Reading.{sizes_in, capacity_in, blocks_in}
use Rattle.certificate.specs.Faults.{HasMagic, HasLimits, HasPromisedBytes, AreSizesWithinLimits, HasClasses, HasRowPast, IsFirstCertificateFault}
use Rattle.certificate.proofs.PartLemmas.{only_memory}

-- what is looked at, in its order
abbrev Passes : List ℕ → ℕ → Type 0
Passes bytes zero = 8 ≤ length bytes
Passes bytes (suc zero) = HasMagic bytes
Passes bytes (suc (suc zero)) = 40 ≤ length bytes
Passes bytes (suc (suc (suc zero))) = AreSizesWithinLimits (sizes_in bytes) (capacity_in bytes)
Passes bytes (suc (suc (suc (suc zero)))) = layout (sizes_in bytes) ≤ length bytes
Passes bytes (suc (suc (suc (suc (suc zero))))) = length bytes ≤ layout (sizes_in bytes)
Passes bytes (suc (suc (suc (suc (suc (suc zero)))))) = HasClasses bytes
Passes bytes (suc (suc (suc (suc (suc (suc (suc k))))))) = ¬ HasRowPast bytes

abbrev fault_at : ℕ → CertFault
fault_at zero = Short
fault_at (suc zero) = Magic
fault_at (suc (suc zero)) = Short
fault_at (suc (suc (suc zero))) = Limit
fault_at (suc (suc (suc (suc zero)))) = Short
fault_at (suc (suc (suc (suc (suc zero))))) = Long
fault_at (suc (suc (suc (suc (suc (suc zero)))))) = ClassRange
fault_at (suc (suc (suc (suc (suc (suc (suc k))))))) = RowRange

abbrev PassBelow : List ℕ → ℕ → Type 0
PassBelow bytes zero = Unit {0}
PassBelow bytes (suc k) = PassBelow bytes k × Passes bytes k

passes_below : (bytes : List ℕ) (k j : ℕ) → PassBelow bytes k → j < k → Passes bytes j
passes_below bytes zero j h l = absurd (omega arith)
passes_below bytes (suc k) j h l = elim (cases_order j k) [
  | inl same ↦ rw same h.1
  | inr (inl below) ↦ passes_below bytes k j h.0 below
  | inr (inr above) ↦ absurd (omega arith)
]

-- the fault of what is the first not to pass
record StandsAt (bytes : List ℕ) (fault : CertFault) : Type 0 where
  place : ℕ
  fault_is : fault_at place ≡ fault
  before : PassBelow bytes place
  fails : ¬ Passes bytes place

eight : (bytes : List ℕ) → HasMagic bytes → 8 ≤ length bytes
eight bytes h = let e = ap length h in omega (arith, e, length-take 8 bytes)

below_limits : (bytes : List ℕ) → HasLimits bytes → PassBelow bytes 4
below_limits bytes h = ((((tt, eight bytes h.head.magic), h.head.magic), h.head.long), h.within)

below_classes : (bytes : List ℕ) → HasPromisedBytes bytes → PassBelow bytes 6
below_classes bytes h = ((below_limits bytes h.numbers, omega (arith, h.length_is)), omega (arith, h.length_is))

has_other_class : (states : List BlockState) → Any (λ (s : BlockState). 5 < s.class) states → ¬ All (λ (s : BlockState). s.class ≤ 5) states
has_other_class states other all =
    let most : other.1.class ≤ 5 = rw other.3 at (all other.0 other.1 other.2) in
    omega (arith, most, other.4)

stands_at : (bytes : List ℕ) (fault : CertFault) → fault ≢ OutOfMemory → IsFirstCertificateFault bytes fault → StandsAt bytes fault
stands_at bytes Magic ne h = record { place = 1; fault_is = refl; before = (tt, h.0); fails = h.1 }
stands_at bytes Short ne (inl h) = record { place = 0; fault_is = refl; before = tt; fails = λ p. omega (arith, h, p) }
stands_at bytes Short ne (inr (inl h)) = record { place = 2; fault_is = refl; before = ((tt, eight bytes h.0), h.0); fails = λ p. omega (arith, h.1, p) }
stands_at bytes Short ne (inr (inr h)) = record { place = 4; fault_is = refl; before = below_limits bytes h.0; fails = λ p. omega (arith, h.1, p) }
stands_at bytes Limit ne h = record { place = 3; fault_is = refl; before = (((tt, eight bytes h.0.magic), h.0.magic), h.0.long); fails = h.1 }
stands_at bytes Long ne h = record { place = 5; fault_is = refl; before = (below_limits bytes h.0, omega (arith, h.1)); fails = λ p. omega (arith, h.1, p) }
stands_at bytes ClassRange ne h = record { place = 6; fault_is = refl; before = below_classes bytes h.0; fails = has_other_class (blocks_in (sizes_in bytes) bytes) h.1 }
stands_at bytes RowRange ne h = record { place = 7; fault_is = refl; before = (below_classes bytes h.0, h.1); fails = λ p. p h.2 }
stands_at bytes OutOfMemory ne h = absurd (ne refl)

one_fault : (bytes : List ℕ) (f g : CertFault) → StandsAt bytes f → StandsAt bytes g → f ≡ g
one_fault bytes f g a b = elim (cases_order a.place b.place) [
  | inl same ↦ sym a.fault_is ∙ (ap fault_at same ∙ b.fault_is)
  | inr (inl below) ↦ absurd (a.fails (passes_below bytes b.place a.place b.before below))
  | inr (inr above) ↦ absurd (b.fails (passes_below bytes a.place b.place a.before above))
]

-- the answer is the fault that stands in the bytes, or that memory ran out
pub fault_or_memory : (bytes : List ℕ) (fault answer : CertFault) → fault ≢ OutOfMemory → IsFirstCertificateFault bytes fault → IsFirstCertificateFault bytes answer → (answer ≡ fault) ⊎ (answer ≡ OutOfMemory)
fault_or_memory bytes fault OutOfMemory ne h a = inr refl
fault_or_memory bytes fault Magic ne h a = inl (one_fault bytes Magic fault (stands_at bytes Magic (λ e. (cc)) a) (stands_at bytes fault ne h))
fault_or_memory bytes fault Short ne h a = inl (one_fault bytes Short fault (stands_at bytes Short (λ e. (cc)) a) (stands_at bytes fault ne h))
fault_or_memory bytes fault Long ne h a = inl (one_fault bytes Long fault (stands_at bytes Long (λ e. (cc)) a) (stands_at bytes fault ne h))
fault_or_memory bytes fault Limit ne h a = inl (one_fault bytes Limit fault (stands_at bytes Limit (λ e. (cc)) a) (stands_at bytes fault ne h))
fault_or_memory bytes fault RowRange ne h a = inl (one_fault bytes RowRange fault (stands_at bytes RowRange (λ e. (cc)) a) (stands_at bytes fault ne h))
fault_or_memory bytes fault ClassRange ne h a = inl (one_fault bytes ClassRange fault (stands_at bytes ClassRange (λ e. (cc)) a) (stands_at bytes fault ne h))

pub is_answered : (bytes : List ℕ) (r : Result Claim CertFault) (fault : CertFault) → IfOk r (λ c. Fits c × (certificate_bytes c ≡ bytes))
    → IfErr r (IsFirstCertificateFault bytes) → fault ≢ OutOfMemory → IsFirstCertificateFault bytes fault
    → IsErrAnd r (λ answer. (answer ≡ fault) ⊎ (answer ≡ OutOfMemory))
is_answered bytes (Ok c) fault found err ne h = ne (only_memory bytes c fault found.0 (sym found.1) h)
is_answered bytes (Err answer) fault found err ne h = fault_or_memory bytes fault answer ne h err
