-- The blocks that an agreeing certificate gives, and what their pages show.
use Rattle.std.proofs.Common.{◌≡◌, ℕ, zero, suc, ◌+◌, ◌*◌, ◌<◌, ◌≤◌, min, Bool, true, false, not, cond, eqb, ◌&&◌, ◌||◌, List, [], ◌∷◌, length, map}
use Rattle.std.proofs.Common.{get_or, Option, Some, None, refl, sym, ap, ◌∙◌, inl, inr, arith, slice_get, is_some}
use Rattle.std.specs.Prelude.{count_by, nat_lt, ◌==◌, IsSome}
use Rattle.std.specs.List.{list_all, list_any, range_with_len, AllByRecursion}
use Rattle.std.proofs.Math.Nat.{mul-le-mul_right}
use Rattle.std.proofs.lemmas.Bool.{cases_Bool, ne_eqb, cond-true, cond-false}
use Rattle.std.proofs.lemmas.List.{get_or-map}
use Rattle.std.proofs.lemmas.List.Folds.{list_any-from_Any}
use Rattle.std.proofs.lemmas.Option.{slice_get-get_or, slice_get_within, get_or_from_slice_get}
use Rattle.page_layout.specs.declared.geometry.Geometry.{Geometry}
use Rattle.page_layout.specs.Page.{Page, Image, IsImage}
use Rattle.page_layout.specs.Sound.{record_of, is_erased_page}
use Rattle.page_layout.specs.Live.{live}
use Rattle.page_layout.specs.Array.{marks}
use Rattle.page_layout.specs.Block.{block_pages, is_programmed, is_broken, has_gap, written, past_last}
use Rattle.page_layout.specs.Change.{IsErasedAt}
use Rattle.page_layout.specs.Flash.{no_page}
use Rattle.page_layout.proofs.CountLemmas.{bit, count_by-cons}
use Rattle.page_layout.proofs.BlockLemmas.{pointer_is}
use Rattle.page_layout.proofs.ArrayLemmas.{mark-page}
use Rattle.bad_blocks.specs.Table as table
use Rattle.bad_blocks.specs.Table.{is_good_at, is_good_class, no_table_row}
use Rattle.certificate.specs.declared.block_state.BlockState.{BlockState}
use Rattle.certificate.specs.Claim as claims
use Rattle.certificate.specs.Claim.{Claim}
use Rattle.certificate.specs.Spelling.{FitsBlock}
use Rattle.allocation.specs.declared.fill.Fill.{Fill}
use Rattle.allocation.specs.State as blocks
use Rattle.allocation.specs.State.{fill_at, pointer_at, live_at, no_fill}
use Rattle.allocation.specs.Begun.{begun, class_from, row_from, fill_from}
use Rattle.promises.specs.Log as logs
use Rattle.promises.specs.Legal.{Account, account_at, accounts_of}
use Rattle.promises.proofs.AccountLemmas.{account_of, length-accounts_of}
use Rattle.image_check.specs.Blocks.{table_class, is_factory, is_grown, is_shown_free, is_shown_open, is_of_data, is_good_block, class, pointer}
use Rattle.image_check.specs.Agrees.{Agrees}
use Rattle.image_check.proofs.StateLemmas.{class_most, pointer_most}
use Rattle.image_check.proofs.LookLemmas.{block_page}
use Rattle.collection.specs.Log.{IsAccounted}
use Rattle.ftl_device.specs.Begin.{no_block, is_bad_in}

-- ---- the state that a certificate gives a block

pub record IsGiven (g : Geometry) (image : Image) (c : Claim) (b : ℕ) : Type 0 where
  pub its : BlockState
  pub within : b < length c.blocks
  pub is : get_or c.blocks b no_block ≡ its
  pub class_is : its.class ≡ class g image b
  pub pointer_is : its.pointer ≡ pointer g image b
  pub live_is : its.live ≡ live g (marks image) b

pub given : (g : Geometry) (capacity : ℕ) (image : Image) (c : Claim) (b : ℕ) → Agrees g capacity image c → b < g.blocks → IsGiven g image c b
given g capacity image c b agrees lt =
    let state = agrees.states.state b lt in
    let counted = agrees.live.state b lt in
    let same : counted.0 ≡ state.0 = cc (state.1, counted.1) in
    record {
      its = state.0;
      within = slice_get_within c.blocks b state.0 state.1;
      is = get_or_from_slice_get c.blocks b state.0 no_block state.1;
      class_is = state.2.0;
      pointer_is = state.2.1;
      live_is = ap (λ (s : BlockState). s.live) (sym same) ∙ counted.2;
    }

-- ---- classes

class_good : (code : ℕ) → code ≤ 5 → is_good_class (class_from code) ≡ nat_lt code 4
class_good zero le = refl
class_good (suc zero) le = refl
class_good (suc (suc zero)) le = refl
class_good (suc (suc (suc zero))) le = refl
class_good (suc (suc (suc (suc zero)))) le = refl
class_good (suc (suc (suc (suc (suc zero))))) le = refl
class_good (suc (suc (suc (suc (suc (suc n)))))) le = absurd (omega arith)

low_class : (a b c d e : Bool) → nat_lt (cond a 4 (cond b 5 (cond c 0 (cond d (cond e 1 2) 3)))) 4 ≡ (not a && not b)
low_class true b c d e = refl
low_class false true c d e = refl
low_class false false true d e = refl
low_class false false false true true = refl
low_class false false false true false = refl
low_class false false false false e = refl

pub good_class : (g : Geometry) (image : Image) (b : ℕ) → nat_lt (class g image b) 4 ≡ is_good_block g image b
unfolding class is_good_block
good_class g image b = low_class (is_factory g image b) (is_grown g image b) (is_shown_free g image b) (is_shown_open g image b) (is_of_data g image b)

module _ (g : Geometry) (image : Image) (c : Claim) (b : ℕ) (here : IsGiven g image c b) where
  pub good_same : is_good_at (begun g c.blocks).table b ≡ is_good_block g image b
  good_same =
      ap table.is_good (get_or-map row_from c.blocks b no_block no_table_row here.within)
      ∙ (ap (λ (s : BlockState). is_good_class (class_from s.class)) here.is
      ∙ (ap (λ k. is_good_class (class_from k)) here.class_is
      ∙ (class_good (class g image b) (class_most g image b) ∙ good_class g image b)))

  pub bad_same : is_bad_in c b ≡ not (is_good_block g image b)
  bad_same = ap (λ (s : BlockState). not (claims.is_good_state s)) here.is ∙ (ap (λ k. not (nat_lt k 4)) here.class_is ∙ ap not (good_class g image b))

  fill_is : fill_at (begun g c.blocks) b ≡ fill_from g.pages here.its
  fill_is = get_or-map (fill_from g.pages) c.blocks b no_block no_fill here.within ∙ ap (fill_from g.pages) here.is

  pub pointer_same : pointer_at (begun g c.blocks) b ≡ pointer g image b
  pointer_same =
      let at : pointer_at (begun g c.blocks) b ≡ min here.its.pointer g.pages = ap (λ (f : Fill). f.pointer) fill_is in
      let most = pointer_most g image b in
      let its = here.pointer_is in
      at ∙ omega arith

  pub live_same : live_at (begun g c.blocks) b ≡ live g (marks image) b
  live_same = ap (λ (f : Fill). f.live) fill_is ∙ here.live_is

-- ---- the pages of a good block

clean : (f t a h : Bool) → (not f && not (not f && (t || a || h))) ≡ true → (a ≡ false) × (h ≡ false)
clean true t a h e = absurd (let no : false ≡ true = e in cc)
clean false true a h e = absurd (let no : false ≡ true = e in cc)
clean false false true h e = absurd (let no : false ≡ true = e in cc)
clean false false false true e = absurd (let no : false ≡ true = e in cc)
clean false false false false e = (refl, refl)

-- none of its pages is broken, and it has no gap
pub good_pages : (g : Geometry) (image : Image) (b : ℕ) → is_good_block g image b ≡ true → (list_any is_broken (block_pages g image b) ≡ false) × (has_gap (block_pages g image b) ≡ false)
unfolding is_good_block
good_pages g image b e = clean (is_factory g image b) (table_class g image b == 2) (list_any is_broken (block_pages g image b)) (has_gap (block_pages g image b)) e

pub pointer_good : (g : Geometry) (image : Image) (b : ℕ) → is_good_block g image b ≡ true → pointer g image b ≡ written (block_pages g image b)
unfolding pointer
pointer_good g image b e = cond-true (is_good_block g image b) (written (block_pages g image b)) 0 e

pub pointer_bad : (g : Geometry) (image : Image) (b : ℕ) → is_good_block g image b ≡ false → pointer g image b ≡ 0
unfolding pointer
pointer_bad g image b e = cond-false (is_good_block g image b) (written (block_pages g image b)) 0 e

-- page p of a block
pub page_there : (g : Geometry) (image : Image) (b p : ℕ) → IsImage g image → b < g.blocks → p < g.pages → slice_get image (b * g.pages + p) ≡ Some (get_or image (b * g.pages + p) no_page)
page_there g image b p whole lt in_block =
    let room : suc b * g.pages ≤ g.blocks * g.pages = mul-le-mul_right g.pages lt in
    let one : suc b * g.pages ≡ b * g.pages + g.pages = omega arith in
    let rows = whole.rows in
    slice_get-get_or image (b * g.pages + p) no_page (omega arith)

not_broken : (p : Page) (ps : List Page) (k : ℕ) → list_any is_broken ps ≡ false → slice_get ps k ≡ Some p → is_erased_page p ≡ false → is_some (record_of p) ≡ true
not_broken p ps k none at filled = elim (cases_Bool (is_some (record_of p))) [
  | inl some ↦ some
  | inr none_here ↦
      let broken : is_broken p ≡ true = ap (λ b. not b && not (is_some (record_of p))) filled ∙ ap not none_here in
      let any : list_any is_broken ps ≡ true = list_any-from_Any is_broken ps (k, p, slice_get_within ps k p at, get_or_from_slice_get ps k p p at, broken) in
      absurd (let clash : false ≡ true = sym none ∙ any in cc)
]

some_is : {X : Type 0} (o : Option X) → is_some o ≡ true → IsSome o
some_is o e = e

-- a page of a good block
module _ (g : Geometry) (image : Image) (b p : ℕ) (whole : IsImage g image) (good : is_good_block g image b ≡ true) (lt : b < g.blocks) (in_block : p < g.pages) where
  abbrev its_page : Page
  its_page = get_or image (b * g.pages + p) no_page

  in_image : slice_get image (b * g.pages + p) ≡ Some its_page
  in_image = page_there g image b p whole lt in_block

  in_pages : slice_get (block_pages g image b) p ≡ Some its_page
  in_pages = block_page g image b p (b * g.pages + p) refl in_block ∙ in_image

  pub sound_below : p < written (block_pages g image b) → is_some (get_or (marks image) (b * g.pages + p) None) ≡ true
  sound_below below =
      let ps = block_pages g image b in
      let clear = good_pages g image b good in
      let filled : is_erased_page its_page ≡ false = elim (cases_Bool (is_erased_page its_page)) [
        | inl blank ↦ absurd (let past = (pointer_is ps p its_page clear.1 in_pages).0 blank in omega arith)
        | inr none_here ↦ none_here
      ] in
      ap is_some (mark-page image (b * g.pages + p) its_page in_image) ∙ not_broken its_page ps p clear.0 in_pages filled

  pub erased_from : written (block_pages g image b) ≤ p → IsErasedAt image (b * g.pages + p)
  erased_from past = record { its = its_page; at = in_image; is = (pointer_is (block_pages g image b) p its_page (good_pages g image b good).1 in_pages).1 past }

-- ---- counts

pub count_same : (p q : ℕ → Bool) (a n : ℕ) → ((k : ℕ) → a ≤ k → k < a + n → p k ≡ q k) → count_by p (range_with_len a n) ≡ count_by q (range_with_len a n)
count_same p q a zero same = refl
count_same p q a (suc n) same =
    let here : bit (p a) ≡ bit (q a) = ap bit (same a (omega arith) (omega arith)) in
    let rest = count_same p q (a + 1) n (λ k low high. same k (omega arith) (omega arith)) in
    omega (arith, count_by-cons p a (range_with_len (a + 1) n), count_by-cons q a (range_with_len (a + 1) n))

all_erased : (ps : List Page) → list_all is_erased_page ps ≡ eqb (written ps) 0
all_erased [] = refl
all_erased (p ∷ ps) = step (is_erased_page p) refl (all_erased ps)
  where
    step : (b : Bool) → is_erased_page p ≡ b → list_all is_erased_page ps ≡ eqb (written ps) 0 → (is_erased_page p && list_all is_erased_page ps) ≡ eqb (written (p ∷ ps)) 0
    step true e h = let n : written (p ∷ ps) ≡ written ps = count_by-cons is_programmed p ps ∙ (ap (λ b. bit (not b) + written ps) e ∙ omega arith) in ap (λ b. b && list_all is_erased_page ps) e ∙ (h ∙ ap (λ k. eqb k 0) (sym n))
    step false e h =
        let n : written (p ∷ ps) ≡ suc (written ps) = count_by-cons is_programmed p ps ∙ (ap (λ b. bit (not b) + written ps) e ∙ omega arith) in
        let never : eqb (written (p ∷ ps)) 0 ≡ false = ne_eqb (written (p ∷ ps)) 0 (λ z. let no : suc (written ps) ≡ 0 = sym n ∙ z in omega arith) in
        ap (λ b. b && list_all is_erased_page ps) e ∙ sym never

free_by : (good : Bool) (pointer many : ℕ) (all : Bool) → (good ≡ true → pointer ≡ many) → all ≡ eqb many 0 → (good && (pointer == 0)) ≡ (not (not good || false) && all)
free_by true pointer many all same is = ap (λ k. eqb k 0) (same refl) ∙ sym is
free_by false pointer many all same is = refl

pub free_same : (g : Geometry) (image : Image) (c : Claim) (b : ℕ) → IsGiven g image c b → blocks.is_free (begun g c.blocks) b ≡ logs.free_of g (is_bad_in c) [] image b
free_same g image c b here =
    let ps = block_pages g image b in
    rw (good_same g image c b here, pointer_same g image c b here, bad_same g image c b here)
    (free_by (is_good_block g image b) (pointer g image b) (written ps) (list_all is_erased_page ps) (pointer_good g image b) (all_erased ps))

pub free_counted : (g : Geometry) (capacity : ℕ) (image : Image) (c : Claim) → Agrees g capacity image c → blocks.free_count (begun g c.blocks) ≡ logs.free_count_after g (is_bad_in c) [] image
free_counted g capacity image c agrees = count_same (blocks.is_free (begun g c.blocks)) (logs.free_of g (is_bad_in c) [] image) 0 g.blocks (λ b low high. free_same g image c b (given g capacity image c b agrees (omega arith)))

pub good_counted : (states : List BlockState) → AllByRecursion FitsBlock states → table.good_count (map row_from states) ≡ count_by claims.is_good_state states
good_counted [] fits = refl
good_counted (s ∷ states) fits =
    let here : bit (table.is_good (row_from s)) ≡ bit (claims.is_good_state s) = ap bit (class_good s.class fits.0.class) in
    let rest = good_counted states fits.1 in
    omega (arith, count_by-cons table.is_good (row_from s) (map row_from states), count_by-cons claims.is_good_state s states)

-- ---- accounts

none_past : (ps : List Page) → list_any is_programmed ps ≡ false → written ps ≡ 0
none_past [] e = refl
none_past (p ∷ ps) e = elim (cases_Bool (is_programmed p)) [
  | inl some ↦ absurd (let clash : true ≡ false = sym (ap (λ b. b || list_any is_programmed ps) some) ∙ e in cc)
  | inr none_here ↦
      let rest : list_any is_programmed ps ≡ false = sym (ap (λ b. b || list_any is_programmed ps) none_here) ∙ e in
      let bits : bit (is_programmed p) ≡ 0 = ap bit none_here in
      omega (arith, count_by-cons is_programmed p ps, none_past ps rest)
]

past_written : (ps : List Page) → has_gap ps ≡ false → past_last ps ≡ written ps
unfolding past_last has_gap
past_written [] e = refl
past_written (p ∷ ps) e = elim (cases_Bool (is_erased_page p)) [
  | inl blank ↦
      let rest : list_any is_programmed ps ≡ false = sym (cond-true (is_erased_page p) (list_any is_programmed ps) (has_gap ps) blank) ∙ e in
      let any : list_any is_programmed (p ∷ ps) ≡ false = ap (λ b. not b || list_any is_programmed ps) blank ∙ rest in
      cond-false (list_any is_programmed (p ∷ ps)) (past_last ps + 1) 0 any ∙ sym (none_past (p ∷ ps) any)
  | inr filled ↦
      let rest : has_gap ps ≡ false = sym (cond-false (is_erased_page p) (list_any is_programmed ps) (has_gap ps) filled) ∙ e in
      let any : list_any is_programmed (p ∷ ps) ≡ true = ap (λ b. not b || list_any is_programmed ps) filled in
      let bits : bit (is_programmed p) ≡ 1 = ap (λ b. bit (not b)) filled in
      cond-true (list_any is_programmed (p ∷ ps)) (past_last ps + 1) 0 any ∙ omega (arith, count_by-cons is_programmed p ps, past_written ps rest)
]

barred_same : (g : Geometry) (image : Image) (c : Claim) (b : ℕ) → b < g.blocks → IsGiven g image c b → (account_at (accounts_of g image (is_bad_in c)) b).barred ≡ not (is_good_at (begun g c.blocks).table b)
barred_same g image c b lt here = ap (λ (a : Account). a.barred) (account_of g image (is_bad_in c) b lt) ∙ (bad_same g image c b here ∙ sym (ap not (good_same g image c b here)))

next_same : (g : Geometry) (image : Image) (c : Claim) (b : ℕ) → b < g.blocks → IsGiven g image c b → is_good_at (begun g c.blocks).table b ≡ true → (account_at (accounts_of g image (is_bad_in c)) b).next ≡ pointer_at (begun g c.blocks) b
next_same g image c b lt here good =
    let fine : is_good_block g image b ≡ true = sym (good_same g image c b here) ∙ good in
    ap (λ (a : Account). a.next) (account_of g image (is_bad_in c) b lt)
    ∙ (past_written (block_pages g image b) (good_pages g image b fine).1
    ∙ (sym (pointer_good g image b fine) ∙ sym (pointer_same g image c b here)))

pub begun_accounts : (g : Geometry) (capacity : ℕ) (image : Image) (c : Claim) → Agrees g capacity image c → IsAccounted (accounts_of g image (is_bad_in c)) (begun g c.blocks)
begun_accounts g capacity image c agrees = record {
  size = length-accounts_of g image (is_bad_in c);
  barred = λ b lt. barred_same g image c b lt (given g capacity image c b agrees lt);
  next = λ b lt good. next_same g image c b lt (given g capacity image c b agrees lt) good;
}
