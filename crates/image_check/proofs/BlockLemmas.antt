-- From states that are the same to the parts of the agreement that are about single blocks.
use Rattle.std.proofs.Common.{◌≡◌, ℕ, ◌+◌, ◌<◌, ◌≤◌, List, length, Some, refl, sym, ap, subst, ◌∙◌, arith, inl, inr, slice_get}
use Rattle.std.proofs.lemmas.Bool.{cases_order}
use Rattle.std.proofs.lemmas.Option.{slice_get-get_or}
use Rattle.std.proofs.Common.{get_or}
use Rattle.page_layout.specs.declared.geometry.Geometry.{Geometry}
use Rattle.page_layout.specs.Page.{Image}
use Rattle.certificate.specs.declared.block_state.BlockState.{BlockState}
use Rattle.certificate.specs.Claim.{Claim}
use Rattle.image_check.specs.declared.blocks.Aspect.{Aspect}
use Rattle.image_check.specs.declared.blocks.Aspect.TheVariants as aspect
use Rattle.image_check.specs.Blocks.{AreStates, block_state}
use Rattle.image_check.specs.Agrees.{EachState}
use Rattle.image_check.specs.Refused.{Holds, IsWrong, IsWrongBlock}
use Rattle.image_check.specs.Aspects.{IsSameInAspect, part_for, refusal_for, AreSame}

pub same_start : (compared : Aspect) (claims reals : List BlockState) → AreSame 0 compared claims reals
same_start compared claims reals = record { each = λ b s t l. absurd (omega arith) }

some_eq : (s t : BlockState) → Some s ≡ Some t → s ≡ t
some_eq s t e = cc

pub same_more : (n : ℕ) (compared : Aspect) (claims reals : List BlockState) (s t : BlockState) → AreSame n compared claims reals → slice_get claims n ≡ Some s → slice_get reals n ≡ Some t → IsSameInAspect compared s t → AreSame (n + 1) compared claims reals
same_more n compared claims reals s t h at_s at_t same = record {
  each = λ b x y l ex ey. elim (cases_order b n) [
    | inl e ↦
        let sx : s ≡ x = some_eq s x (sym at_s ∙ (ap (slice_get claims) (sym e) ∙ ex)) in
        let ty : t ≡ y = some_eq t y (sym at_t ∙ (ap (slice_get reals) (sym e) ∙ ey)) in
        subst (λ z. IsSameInAspect compared z y) sx (subst (λ z. IsSameInAspect compared s z) ty same)
    | inr (inl below) ↦ h.each b x y below ex ey
    | inr (inr above) ↦ absurd (omega arith)
  ];
}

-- the certificate's states of the first n blocks pass
all_same : (n : ℕ) (g : Geometry) (image : Image) (compared : Aspect) (claims reals : List BlockState) → AreSame n compared claims reals → n ≤ length claims → n ≤ g.blocks → AreStates g image reals → EachState n claims (λ b s. IsSameInAspect compared s (block_state g image b))
all_same n g image compared claims reals h within few states = record {
  state = λ b l.
      let d : BlockState = block_state g image b in
      let at : slice_get claims b ≡ Some (get_or claims b d) = slice_get-get_or claims b d (omega arith) in
      (get_or claims b d, at, h.each b (get_or claims b d) d l at (states.state b (omega arith)));
}

pub blocks_hold : (g : Geometry) (capacity : ℕ) (image : Image) (c : Claim) (n : ℕ) (compared : Aspect) (reals : List BlockState)
    → AreSame n compared c.blocks reals → n ≡ length reals → length c.blocks ≡ length reals → AreStates g image reals
    → Holds g capacity image c (part_for compared)
blocks_hold g capacity image c n aspect.BadSet reals h whole size states = let e = states.size in all_same g.blocks g image aspect.BadSet c.blocks reals (subst (λ k. AreSame k aspect.BadSet c.blocks reals) (whole ∙ e) h) (omega arith) (omega arith) states
blocks_hold g capacity image c n aspect.State reals h whole size states = let e = states.size in all_same g.blocks g image aspect.State c.blocks reals (subst (λ k. AreSame k aspect.State c.blocks reals) (whole ∙ e) h) (omega arith) (omega arith) states
blocks_hold g capacity image c n aspect.Live reals h whole size states = let e = states.size in all_same g.blocks g image aspect.Live c.blocks reals (subst (λ k. AreSame k aspect.Live c.blocks reals) (whole ∙ e) h) (omega arith) (omega arith) states
blocks_hold g capacity image c n aspect.Wear reals h whole size states = let e = states.size in all_same g.blocks g image aspect.Wear c.blocks reals (subst (λ k. AreSame k aspect.Wear c.blocks reals) (whole ∙ e) h) (omega arith) (omega arith) states

fails_at : (g : Geometry) (image : Image) (compared : Aspect) (claims : List BlockState) (b : ℕ) → IsWrongBlock g claims b (λ n s. IsSameInAspect compared s (block_state g image n)) → EachState g.blocks claims (λ n s. IsSameInAspect compared s (block_state g image n)) → ⊥
fails_at g image compared claims b w all =
    let one = all.state b w.within in
    let same : one.0 ≡ w.state = some_eq one.0 w.state (sym one.1 ∙ w.at) in
    w.wrong (subst (λ s. IsSameInAspect compared s (block_state g image b)) same one.2)

wrong_at : (g : Geometry) (capacity : ℕ) (image : Image) (c : Claim) (compared : Aspect) (b : ℕ) → IsWrongBlock g c.blocks b (λ n s. IsSameInAspect compared s (block_state g image n)) → IsWrong g capacity image c (part_for compared) (refusal_for compared b)
wrong_at g capacity image c aspect.BadSet b w = record { part_is = refl; fails = fails_at g image aspect.BadSet c.blocks b w; says = w }
wrong_at g capacity image c aspect.State b w = record { part_is = refl; fails = fails_at g image aspect.State c.blocks b w; says = w }
wrong_at g capacity image c aspect.Live b w = record { part_is = refl; fails = fails_at g image aspect.Live c.blocks b w; says = w }
wrong_at g capacity image c aspect.Wear b w = record { part_is = refl; fails = fails_at g image aspect.Wear c.blocks b w; says = w }

pub block_wrong : (g : Geometry) (capacity : ℕ) (image : Image) (c : Claim) (b : ℕ) (compared : Aspect) (reals : List BlockState) (s t : BlockState)
    → AreSame b compared c.blocks reals → b < length reals → length c.blocks ≡ length reals → slice_get c.blocks b ≡ Some s
    → slice_get reals b ≡ Some t → (IsSameInAspect compared s t → ⊥) → AreStates g image reals
    → IsWrong g capacity image c (part_for compared) (refusal_for compared b)
block_wrong g capacity image c b compared reals s t h within size at_s at_t differ states =
    let e = states.size in
    let real : t ≡ block_state g image b = some_eq t (block_state g image b) (sym at_t ∙ states.state b (omega arith)) in
    wrong_at g capacity image c compared b (record {
      within = omega arith;
      state = s;
      at = at_s;
      wrong = λ x. differ (subst (λ z. IsSameInAspect compared s z) (sym real) x);
      before = all_same b g image compared c.blocks reals h (omega arith) (omega arith) states;
    })
