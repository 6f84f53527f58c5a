-- What a refusal is not, and what it says.
use Rattle.std.proofs.Common.{◌≡◌, ◌⊎◌, ◌↔◌, ℕ, List, Option, IfSome, Result, Ok, Err, IfOk, IfErr, refl, sym, ap, subst, ◌∙◌, inl, inr}
use Rattle.page_layout.specs.declared.geometry.Geometry.{Geometry}
use Rattle.page_layout.specs.Page.{Image}
use Rattle.page_layout.specs.Raw.{raw_image}
use Rattle.certificate.specs.Claim.{Claim}
use Rattle.image_check.specs.declared.refusal.Refusal.{Refusal}
use Rattle.image_check.specs.declared.refusal.Refusal.TheVariants as refusals
use Rattle.image_check.specs.Accepted.{Acceptance}
use Rattle.image_check.specs.Agrees.{IsAsked}
use Rattle.image_check.specs.Passed.{IsUnbegun}
use Rattle.image_check.specs.Refused.{IsFirstWrong, IsJudgement, IsRefusal}
use Rattle.image_check.specs.Streamed.{IsUntaken, IsStreamRefusal}
use Rattle.image_check.proofs.JudgeLemmas.{not_asked}
use Rattle.image_check.proofs.PageReaderLemmas.{if_more}

-- where only the parts are judged, what is refused is a judgement
pub judged : {T : Type 0} (r : Result T Refusal) (x : Refusal) → IfErr r IsJudgement → r ≡ Err x → IsJudgement x
judged {T} r x h e = subst (λ (y : Result T Refusal). IfErr y IsJudgement) e h

pub stopped_unjudged : (x : Refusal) → (x ≡ refusals.Source) ⊎ (x ≡ refusals.WrongLength) → IsJudgement x → ⊥
stopped_unjudged x (inl e) j = subst IsJudgement e j
stopped_unjudged x (inr e) j = subst IsJudgement e j

-- what is one of two refusals is no third one
pub neither : {T : Type 0} (r : Result T Refusal) (x a b y : Refusal) → (x ≡ a) ⊎ (x ≡ b) → r ≡ Err x → (y ≡ a → ⊥) → (y ≡ b → ⊥) → r ≡ Err y → ⊥
neither r x a b y (inl e) was not_a not_b is = not_a (let same : y ≡ a = cc in same)
neither r x a b y (inr e) was not_a not_b is = not_b (let same : y ≡ b = cc in same)

pub same_refusal : {T : Type 0} (r : Result T Refusal) (x y : Refusal) → r ≡ Err x → r ≡ Err y → x ≡ y
same_refusal r x y h k = cc

pub ok_not_source : {T : Type 0} (r : Result T Refusal) (x : T) → r ≡ Ok x → r ≡ Err refusals.Source → ⊥
ok_not_source r x h k = (let never : ⊥ = cc in never)

pub err_not_source : {T : Type 0} (r : Result T Refusal) (x : Refusal) → r ≡ Err x → (x ≡ refusals.Source → ⊥) → r ≡ Err refusals.Source → ⊥
err_not_source r x was other is = other (same_refusal r x refusals.Source was is)

pub asked_not_source : refusals.GeometryDiffers ≡ refusals.Source → ⊥
asked_not_source e = (let never : ⊥ = cc in never)

pub asked_not_length : refusals.GeometryDiffers ≡ refusals.WrongLength → ⊥
asked_not_length e = (let never : ⊥ = cc in never)

pub memory_not_asked : refusals.OutOfMemory ≡ refusals.GeometryDiffers → ⊥
memory_not_asked e = (let never : ⊥ = cc in never)

pub memory_not_source : refusals.OutOfMemory ≡ refusals.Source → ⊥
memory_not_source e = (let never : ⊥ = cc in never)

pub memory_not_length : refusals.OutOfMemory ≡ refusals.WrongLength → ⊥
memory_not_length e = (let never : ⊥ = cc in never)

pub length_not_asked : refusals.WrongLength ≡ refusals.GeometryDiffers → ⊥
length_not_asked e = asked_not_length (sym e)

pub length_not_memory : refusals.WrongLength ≡ refusals.OutOfMemory → ⊥
length_not_memory e = memory_not_length (sym e)

pub source_not_asked : refusals.Source ≡ refusals.GeometryDiffers → ⊥
source_not_asked e = (let never : ⊥ = cc in never)

pub source_not_memory : refusals.Source ≡ refusals.OutOfMemory → ⊥
source_not_memory e = (let never : ⊥ = cc in never)

pub length_not_source : refusals.WrongLength ≡ refusals.Source → ⊥
length_not_source e = (let never : ⊥ = cc in never)

pub source_not_length : refusals.Source ≡ refusals.WrongLength → ⊥
source_not_length e = length_not_source (sym e)

pub untaken_refusal : (g : Geometry) (capacity : ℕ) (o : Option (List ℕ)) (c : Claim) (x : Refusal) → IfSome o (λ bytes. IsUntaken g bytes x) → IfSome o (λ bytes. IsStreamRefusal g capacity bytes c x)
untaken_refusal g capacity o c x h = if_more o (λ bytes. IsUntaken g bytes x) (λ bytes. IsStreamRefusal g capacity bytes c x) h (λ bytes u. (elim u [
  | inl e ↦ inl (inl e)
  | inr w ↦ inr (inl w)
]))

-- what is accepted is the certificate that was asked for
pub accepted_of : (r : Result Acceptance Refusal) (g : Geometry) (capacity : ℕ) (own c : Claim) → IfOk r (λ a. a.claim ≡ own) → own ≡ c → IsAsked g capacity c → IfOk r (λ a. (a.claim ≡ c) × IsAsked g capacity c)
accepted_of (Ok a) g capacity own c h e asked = (h ∙ e, asked)
accepted_of (Err x) g capacity own c h e asked = tt

-- ---- where no pass begins

pub own_asked : (g : Geometry) (capacity : ℕ) (c : Claim) → IsAsked g capacity c → IsAsked g c.capacity c
own_asked g capacity c h = record { geometry = h.geometry; capacity_same = refl }

pub unbegun_of : (g : Geometry) (capacity : ℕ) (c : Claim) (x : Refusal) → IsUnbegun g capacity c x → (x ≡ refusals.GeometryDiffers) ⊎ (x ≡ refusals.OutOfMemory)
unbegun_of g capacity c x (inl h) = inl h.0
unbegun_of g capacity c x (inr h) = inr h.0

pub unbegun_asked : {T : Type 0} (r : Result T Refusal) (g : Geometry) (capacity : ℕ) (c : Claim) (x : Refusal) → r ≡ Err x → IsUnbegun g capacity c x → (r ≡ Err refusals.GeometryDiffers) ↔ (¬ IsAsked g capacity c)
unbegun_asked r g capacity c x was (inl h) = (λ is. h.1, λ differs. was ∙ ap (λ y. Err y) h.0)
unbegun_asked r g capacity c x was (inr h) = (λ is. absurd (memory_not_asked (sym h.0 ∙ same_refusal r x refusals.GeometryDiffers was is)), λ differs. absurd (differs h.1))

pub unbegun_not_source : {T : Type 0} (r : Result T Refusal) (g : Geometry) (capacity : ℕ) (c : Claim) (x : Refusal) → IsUnbegun g capacity c x → r ≡ Err x → r ≡ Err refusals.Source → ⊥
unbegun_not_source r g capacity c x (inl h) was is = asked_not_source (sym h.0 ∙ same_refusal r x refusals.Source was is)
unbegun_not_source r g capacity c x (inr h) was is = memory_not_source (sym h.0 ∙ same_refusal r x refusals.Source was is)

-- a growth was refused, or the first part fails
pub unbegun_first : (g : Geometry) (capacity : ℕ) (image : Image) (c : Claim) (x : Refusal) → IsUnbegun g capacity c x → (x ≡ refusals.OutOfMemory) ⊎ IsFirstWrong g capacity image c x
unbegun_first g capacity image c x (inl h) = inr (subst (λ y. IsFirstWrong g capacity image c y) (sym h.0) (not_asked g capacity image c h.1))
unbegun_first g capacity image c x (inr h) = inl h.0

pub unbegun_refusal : (g : Geometry) (capacity : ℕ) (image : Image) (c : Claim) (x : Refusal) → IsUnbegun g capacity c x → IsRefusal g capacity image c x
unbegun_refusal g capacity image c x h = elim (unbegun_first g capacity image c x h) [
  | inl memory ↦ inl (inr memory)
  | inr wrong ↦ inr wrong
]

pub unbegun_streamed : (g : Geometry) (capacity : ℕ) (bytes : List ℕ) (c : Claim) (x : Refusal) → IsUnbegun g capacity c x → IsStreamRefusal g capacity bytes c x
unbegun_streamed g capacity bytes c x h = elim (unbegun_first g capacity (raw_image g bytes) c x h) [
  | inl memory ↦ inl (inr memory)
  | inr wrong ↦ inr (inr wrong)
]

pub unbegun_unjudged : (g : Geometry) (capacity : ℕ) (c : Claim) (x : Refusal) → IsUnbegun g capacity c x → IsJudgement x → ⊥
unbegun_unjudged g capacity c x (inl h) j = subst IsJudgement h.0 j
unbegun_unjudged g capacity c x (inr h) j = subst IsJudgement h.0 j
