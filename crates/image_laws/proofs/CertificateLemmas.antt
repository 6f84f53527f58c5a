-- Which certificate an image has.
use Rattle.std.proofs.Common.{◌≡◌, ℕ, suc, ◌+◌, ◌-◌, ◌<◌, List, [], ◌∷◌, length, Option, Some, slice_get, refl, sym, ap, ◌∙◌, inl, inr, arith}
use Rattle.std.proofs.lemmas.Bool.{cases_lt}
use Rattle.page_layout.specs.declared.geometry.Geometry.{Geometry}
use Rattle.page_layout.specs.Geometry.{translation_pages, table_pages}
use Rattle.page_layout.specs.Page.{Image}
use Rattle.page_layout.specs.Array.{marks}
use Rattle.page_layout.specs.Live.{live}
use Rattle.certificate.specs.declared.block_state.BlockState.{BlockState}
use Rattle.certificate.specs.Claim.{Sizes, Claim}
use Rattle.image_check.specs.Blocks.{class, pointer, erase_count}
use Rattle.image_check.specs.Agrees.{Agrees, IsDirectory}
use Rattle.image_laws.specs.Certificates.{OneNextLaw, OneCertificateLaw, OneMountLaw, WholeFirstLaw}

pub one_next : OneNextLaw
one_next marks a b p q =
    let one = q.above.below p.row p.greatest p.here in
    let two = p.above.below q.row q.greatest q.here in
    let x = p.is in
    let y = q.is in
    omega arith

-- ---- lists

same_lists : {X : Type 0} (xs ys : List X) → length xs ≡ length ys → ((i : ℕ) → i < length xs → slice_get xs i ≡ slice_get ys i) → xs ≡ ys
same_lists [] [] size each = refl
same_lists [] (y ∷ ys) size each = absurd (omega (arith, size))
same_lists (x ∷ xs) [] size each = absurd (omega (arith, size))
same_lists (x ∷ xs) (y ∷ ys) size each =
    let head : Some x ≡ Some y = each 0 (omega arith) in
    let tail : xs ≡ ys = same_lists xs ys (omega (arith, size)) (λ i l. each (suc i) (omega (arith, l))) in
    let first : x ≡ y = cc in
    cc

-- ---- states

state_from : ℕ → ℕ → ℕ → ℕ → BlockState
state_from class pointer live wear = record { class = class; pointer = pointer; live = live; wear = wear }

same_state : (s t : BlockState) → s.class ≡ t.class → s.pointer ≡ t.pointer → s.live ≡ t.live → s.wear ≡ t.wear → s ≡ t
unfolding state_from
same_state s t a b c d =
    ap (λ (x : ℕ). state_from x s.pointer s.live s.wear) a ∙ (
    ap (λ (x : ℕ). state_from t.class x s.live s.wear) b ∙ (
    ap (λ (x : ℕ). state_from t.class t.pointer x s.wear) c ∙
    ap (λ (x : ℕ). state_from t.class t.pointer t.live x) d))

-- the state of a block that an agreeing certificate has
record IsStateOf (g : Geometry) (image : Image) (b : ℕ) (s : BlockState) : Type 0 where
  class_is : s.class ≡ class g image b
  pointer_is : s.pointer ≡ pointer g image b
  live_is : s.live ≡ live g (marks image) b
  wear_is : s.wear ≡ erase_count g image b

one_state : (states : List BlockState) (b : ℕ) (s t : BlockState) → slice_get states b ≡ Some s → slice_get states b ≡ Some t → t ≡ s
one_state states b s t e f = cc

state_of : (g : Geometry) (capacity : ℕ) (image : Image) (c : Claim) (b : ℕ) → Agrees g capacity image c → b < g.blocks → (s : BlockState) × (slice_get c.blocks b ≡ Some s) × IsStateOf g image b s
state_of g capacity image c b a l =
    let at = a.states.state b l in
    let live = a.live.state b l in
    let wear = a.wear.state b l in (
      at.0,
      at.1,
      record {
        class_is = at.2.0;
        pointer_is = at.2.1;
        live_is = sym (ap (λ (s : BlockState). s.live) (one_state c.blocks b at.0 live.0 at.1 live.1)) ∙ live.2;
        wear_is = sym (ap (λ (s : BlockState). s.wear) (one_state c.blocks b at.0 wear.0 at.1 wear.1)) ∙ wear.2;
      },
    )

same_blocks : (g : Geometry) (capacity : ℕ) (image : Image) (c d : Claim) (b : ℕ) → Agrees g capacity image c → Agrees g capacity image d → b < g.blocks → slice_get c.blocks b ≡ slice_get d.blocks b
same_blocks g capacity image c d b a e l =
    let s = state_of g capacity image c b a l in
    let t = state_of g capacity image d b e l in
    let same : s.0 ≡ t.0 = same_state s.0 t.0 (s.2.class_is ∙ sym t.2.class_is) (s.2.pointer_is ∙ sym t.2.pointer_is) (s.2.live_is ∙ sym t.2.live_is) (s.2.wear_is ∙ sym t.2.wear_is) in
    s.1 ∙ (ap Some same ∙ sym t.1)

-- ---- the directory

same_directory : (g : Geometry) (image : Image) (xs ys : List (Option ℕ)) (i : ℕ) → IsDirectory g image xs → IsDirectory g image ys → i < translation_pages g + table_pages g → slice_get xs i ≡ slice_get ys i
same_directory g image xs ys i p q l = elim (cases_lt i (translation_pages g)) [
  | inl below ↦ p.translation i below ∙ sym (q.translation i below)
  | inr above ↦
      let place : i ≡ translation_pages g + (i - translation_pages g) = omega arith in
      let there : i - translation_pages g < table_pages g = omega arith in
      ap (slice_get xs) place ∙ (p.table (i - translation_pages g) there ∙ (sym (q.table (i - translation_pages g) there) ∙ sym (ap (slice_get ys) place)))
]

-- ---- the certificate

claim_from : Sizes → ℕ → ℕ → List BlockState → List (Option ℕ) → List (Option ℕ) → Claim
claim_from sizes capacity next blocks directory sectors = record { sizes = sizes; capacity = capacity; next = next; blocks = blocks; directory = directory; sectors = sectors }

same_claim : (c d : Claim) → c.sizes ≡ d.sizes → c.capacity ≡ d.capacity → c.next ≡ d.next → c.blocks ≡ d.blocks → c.directory ≡ d.directory → c.sectors ≡ d.sectors → c ≡ d
unfolding claim_from
same_claim c d p q r s t u =
    ap (λ (x : Sizes). claim_from x c.capacity c.next c.blocks c.directory c.sectors) p ∙ (
    ap (λ (x : ℕ). claim_from d.sizes x c.next c.blocks c.directory c.sectors) q ∙ (
    ap (λ (x : ℕ). claim_from d.sizes d.capacity x c.blocks c.directory c.sectors) r ∙ (
    ap (λ (x : List BlockState). claim_from d.sizes d.capacity d.next x c.directory c.sectors) s ∙ (
    ap (λ (x : List (Option ℕ)). claim_from d.sizes d.capacity d.next d.blocks x c.sectors) t ∙
    ap (λ (x : List (Option ℕ)). claim_from d.sizes d.capacity d.next d.blocks d.directory x) u))))

pub one_certificate : OneCertificateLaw
one_certificate g capacity image c d sized others a b next = same_claim c d
    (a.asked.geometry ∙ sym b.asked.geometry)
    (a.asked.capacity_same ∙ sym b.asked.capacity_same)
    next
    (same_lists c.blocks d.blocks (sized.blocks ∙ sym others.blocks) (λ i l. same_blocks g capacity image c d i a b (let size = sized.blocks in omega arith)))
    (same_lists c.directory d.directory (sized.directory ∙ sym others.directory) (λ i l. same_directory g image c.directory d.directory i a.directory b.directory (let size = sized.directory in omega arith)))
    (same_lists c.sectors d.sectors (sized.sectors ∙ sym others.sectors) (λ i l. (let within : i < g.sectors = (let size = sized.sectors in omega arith) in a.sectors.newest_is i within ∙ sym (b.sectors.newest_is i within))))

pub one_mount : OneMountLaw
one_mount g capacity image c d sized others a b = one_certificate g capacity image c d sized others a.agrees b.agrees (one_next (marks image) c.next d.next a.next b.next)

pub whole_first : WholeFirstLaw
whole_first bytes whole = whole.length_is
