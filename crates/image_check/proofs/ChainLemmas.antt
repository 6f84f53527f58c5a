-- Parts that are looked at one after another.
use Rattle.std.proofs.Common.{◌≡◌, ℕ, zero, suc, ◌+◌, refl, sym, ap, subst, ◌∙◌, arith, inl, inr}
use Rattle.std.proofs.lemmas.Bool.{cases_lt}
use Rattle.page_layout.specs.declared.geometry.Geometry.{Geometry}
use Rattle.page_layout.specs.Page.{Image}
use Rattle.certificate.specs.Claim.{Claim}
use Rattle.image_check.specs.declared.refusal.Refusal.{Refusal}
use Rattle.image_check.specs.Agrees.{Agrees}
use Rattle.image_check.specs.Refused.{Part, Asked, Numbers, Sequences, Tables, Directory, Sectors, BadSet, States, Live, Wear, Next, Fresh, Holds}
use Rattle.image_check.specs.Refused.{order, HoldBetween, FailsFrom, IsWrong, IsFirstWrong}

-- the part at a place of the order
part_at : ℕ → Part
part_at zero = Asked
part_at (suc zero) = Numbers
part_at (suc (suc zero)) = Sequences
part_at (suc (suc (suc zero))) = Tables
part_at (suc (suc (suc (suc zero)))) = Directory
part_at (suc (suc (suc (suc (suc zero))))) = Sectors
part_at (suc (suc (suc (suc (suc (suc zero)))))) = BadSet
part_at (suc (suc (suc (suc (suc (suc (suc zero))))))) = States
part_at (suc (suc (suc (suc (suc (suc (suc (suc zero)))))))) = Live
part_at (suc (suc (suc (suc (suc (suc (suc (suc (suc zero))))))))) = Wear
part_at (suc (suc (suc (suc (suc (suc (suc (suc (suc (suc zero)))))))))) = Next
part_at (suc (suc (suc (suc (suc (suc (suc (suc (suc (suc (suc n))))))))))) = Fresh

part_at-order : (p : Part) → part_at (order p) ≡ p
unfolding part_at
part_at-order Asked = refl
part_at-order Numbers = refl
part_at-order Sequences = refl
part_at-order Tables = refl
part_at-order Directory = refl
part_at-order Sectors = refl
part_at-order BadSet = refl
part_at-order States = refl
part_at-order Live = refl
part_at-order Wear = refl
part_at-order Next = refl
part_at-order Fresh = refl

same_part : (p q : Part) → order p ≡ order q → p ≡ q
same_part p q e = sym (part_at-order p) ∙ (ap part_at e ∙ part_at-order q)

pub hold_none : (g : Geometry) (capacity : ℕ) (image : Image) (c : Claim) (from : ℕ) → HoldBetween g capacity image c from from
hold_none g capacity image c from = record { part = λ p low high. absurd (omega arith) }

pub hold_one : (g : Geometry) (capacity : ℕ) (image : Image) (c : Claim) (q : Part) (from to : ℕ) → from ≡ order q → to ≡ order q + 1 → Holds g capacity image c q → HoldBetween g capacity image c from to
hold_one g capacity image c q from to e f h = record {
  part = λ p low high. let same : order q ≡ order p = omega arith in subst (λ x. Holds g capacity image c x) (same_part q p same) h;
}

pub hold_join : (g : Geometry) (capacity : ℕ) (image : Image) (c : Claim) (a b d : ℕ) → HoldBetween g capacity image c a b → HoldBetween g capacity image c b d → HoldBetween g capacity image c a d
hold_join g capacity image c a b d h k = record {
  part = λ p low high. elim (cases_lt (order p) b) [
    | inl below ↦ h.part p low below
    | inr above ↦ k.part p above high
  ];
}

-- one part more holds
pub hold_more : (g : Geometry) (capacity : ℕ) (image : Image) (c : Claim) (q : Part) (a b d : ℕ) → b ≡ order q → d ≡ b + 1 → HoldBetween g capacity image c a b → Holds g capacity image c q → HoldBetween g capacity image c a d
hold_more g capacity image c q a b d e f h k = hold_join g capacity image c a b d h (hold_one g capacity image c q b d e (omega arith) k)

pub fails_here : (g : Geometry) (capacity : ℕ) (image : Image) (c : Claim) (q : Part) (from : ℕ) (r : Refusal) → HoldBetween g capacity image c from (order q) → IsWrong g capacity image c q r → FailsFrom g capacity image c from r
fails_here g capacity image c q from r h w = record { part = q; wrong = w; before = λ p low high. h.part p low high }

pub fails_later : (g : Geometry) (capacity : ℕ) (image : Image) (c : Claim) (a b : ℕ) (r : Refusal) → HoldBetween g capacity image c a b → FailsFrom g capacity image c b r → FailsFrom g capacity image c a r
fails_later g capacity image c a b r h f = record {
  part = f.part;
  wrong = f.wrong;
  before = λ p low high. elim (cases_lt (order p) b) [
    | inl below ↦ h.part p low below
    | inr above ↦ f.before p above high
  ];
}

pub fails_first : (g : Geometry) (capacity : ℕ) (image : Image) (c : Claim) (r : Refusal) → FailsFrom g capacity image c 0 r → IsFirstWrong g capacity image c r
fails_first g capacity image c r f = record { part = f.part; wrong = f.wrong; before = λ p high. f.before p (omega arith) high }

-- all parts hold
pub agrees_of : (g : Geometry) (capacity : ℕ) (image : Image) (c : Claim) → HoldBetween g capacity image c 0 12 → Agrees g capacity image c
agrees_of g capacity image c h = record {
  asked = h.part Asked (omega arith) (omega arith);
  numbers = h.part Numbers (omega arith) (omega arith);
  sequences = h.part Sequences (omega arith) (omega arith);
  tables = h.part Tables (omega arith) (omega arith);
  directory = h.part Directory (omega arith) (omega arith);
  sectors = h.part Sectors (omega arith) (omega arith);
  bad_set = h.part BadSet (omega arith) (omega arith);
  states = h.part States (omega arith) (omega arith);
  live = h.part Live (omega arith) (omega arith);
  wear = h.part Wear (omega arith) (omega arith);
  next = h.part Next (omega arith) (omega arith);
  fresh = h.part Fresh (omega arith) (omega arith);
}
