-- What one page more shows of its block.
use Rattle.std.proofs.Common.{◌≡◌, ◌≢◌, ℕ, zero, suc, ◌+◌, ◌-◌, ◌*◌, ◌<◌, ◌≤◌, Bool, true, false, cond, eqb, ◌||◌, ◌&&◌, max, List, [], ◌∷◌, ◌++◌}
use Rattle.std.proofs.Common.{length, get_or, set, take, drop, length-set, length-take, Some, refl, sym, ap, ◌∙◌, arith, ◌⊎◌, inl, inr, slice_get}
use Rattle.std.proofs.Common.{replicate}
use Rattle.std.specs.Prelude.{not, count_by}
use Rattle.std.specs.List.{list_any}
use Rattle.std.proofs.Math.Bool.{or_assoc, or-false}
use Rattle.std.proofs.lemmas.List.Sums.{fold-append}
use Rattle.std.proofs.lemmas.Bool.{cases_order, eqb-true}
use Rattle.std.proofs.Common.{All}
use Rattle.std.proofs.lemmas.List.Elements.{All-set}
use Rattle.std.proofs.lemmas.List.{take_all, length-replicate, get_or-replicate}
use Rattle.std.proofs.lemmas.Option.{get_or_from_slice_get, slice_get_within}
use Rattle.std.proofs.Math.Nat.{mul-le-mul_right}
use Rattle.bad_blocks.proofs.TableLemmas.{slice_get-set_same, slice_get-set_other}
use Rattle.page_layout.specs.declared.geometry.Geometry.{Geometry}
use Rattle.page_layout.specs.Page.{Page, Image}
use Rattle.page_layout.specs.Sound.{record_of, is_erased_page}
use Rattle.page_layout.specs.Block.{block_pages, is_programmed, is_broken, has_gap, written, wear_in, has_data_kind, begins_data, sequence_in}
use Rattle.page_layout.proofs.CountLemmas.{count_by-append}
use Rattle.image_check.specs.declared.look.BlockLook.{BlockLook}
use Rattle.image_check.specs.Survey.{block_look_of, look_step, HasLooks}

any-append : {X : Type 0} (p : X → Bool) (xs : List X) (x : X) → list_any p (xs ++ x ∷ []) ≡ (list_any p xs || p x)
any-append p [] x = or-false (p x)
any-append p (y ∷ xs) x = ap (λ b. p y || b) (any-append p xs x) ∙ sym (or_assoc (p y) (list_any p xs) (p x))

-- the last page makes a gap where it isn't erased and an earlier one is
gap-append : (ps : List Page) (p : Page) → has_gap (ps ++ p ∷ []) ≡ (has_gap ps || (list_any is_erased_page ps && is_programmed p))
unfolding has_gap
gap-append [] p = elim (is_erased_page p) as (λ b. cond b false false ≡ false) [ true ↦ refl | false ↦ refl ]
gap-append (q ∷ ps) p =
    let more = any-append is_programmed ps p in
    let rest = gap-append ps p in
    elim (is_erased_page q) as (λ b. cond b (list_any is_programmed (ps ++ p ∷ [])) (has_gap (ps ++ p ∷ [])) ≡ (cond b (list_any is_programmed ps) (has_gap ps) || ((b || list_any is_erased_page ps) && is_programmed p))) [
      | true ↦ more
      | false ↦ rest
    ]

-- whether a page is the first of its block
pub record IsFirst (first : Bool) (ps : List Page) : Type 0 where
  pub yes : first ≡ true → length ps ≡ 0
  pub no : first ≡ false → 0 < length ps

data-append : (ps : List Page) (p : Page) (first : Bool) → IsFirst first ps → begins_data (ps ++ p ∷ []) ≡ cond first (has_data_kind (record_of p)) (begins_data ps)
data-append [] p true e = refl
data-append [] p false e = absurd (let l = e.no refl in omega arith)
data-append (q ∷ ps) p true e = absurd (let l = e.yes refl in omega arith)
data-append (q ∷ ps) p false e = refl

one_page : (p : Page) → count_by is_programmed (p ∷ []) ≡ cond (is_erased_page p) 0 1
one_page p = elim (is_erased_page p) as (λ b. count_by (λ (q : Page). not b) (p ∷ []) ≡ cond b 0 1) [ true ↦ refl | false ↦ refl ]

written-append : (ps : List Page) (p : Page) → written (ps ++ p ∷ []) ≡ written ps + cond (is_erased_page p) 0 1
written-append ps p = count_by-append is_programmed ps (p ∷ []) ∙ ap (λ k. written ps + k) (one_page p)

pub look_step-look_of : (ps : List Page) (p : Page) (first : Bool) → IsFirst first ps → look_step (block_look_of ps) first (is_erased_page p) (record_of p) ≡ block_look_of (ps ++ p ∷ [])
unfolding look_step block_look_of
look_step-look_of ps p first e =
    let e1 = written-append ps p in
    let e2 = any-append is_erased_page ps p in
    let e3 = any-append is_broken ps p in
    let e4 = gap-append ps p in
    let e5 = data-append ps p first e in
    let e6 = fold-append (λ (s : ℕ) (q : Page). cond (is_erased_page q) s (sequence_in (record_of q))) 0 ps (p ∷ []) in
    let e7 = fold-append (λ (w : ℕ) (q : Page). max w (wear_in (record_of q))) 0 ps (p ∷ []) in
    cc

-- ---- the blocks of an image

pub take_one : {X : Type 0} (xs : List X) (i : ℕ) (x : X) → slice_get xs i ≡ Some x → take (suc i) xs ≡ take i xs ++ x ∷ []
take_one [] i x e = absurd cc
take_one (y ∷ xs) zero x e = let same : y ≡ x = cc in ap (λ z. z ∷ []) same
take_one (y ∷ xs) (suc i) x e = ap (λ ys. y ∷ ys) (take_one xs i x e)

pub slice_get-drop : {X : Type 0} (xs : List X) (a i j : ℕ) → j ≡ a + i → slice_get (drop a xs) i ≡ slice_get xs j
slice_get-drop xs zero i j e = let same : i ≡ j = omega arith in ap (slice_get xs) same
slice_get-drop [] (suc a) i j e = refl
slice_get-drop (x ∷ xs) (suc a) i zero e = absurd (omega arith)
slice_get-drop (x ∷ xs) (suc a) i (suc j) e = slice_get-drop xs a i j (omega arith)

pub slice_get-take : {X : Type 0} (xs : List X) (n i : ℕ) → i < n → slice_get (take n xs) i ≡ slice_get xs i
slice_get-take xs zero i l = absurd (omega arith)
slice_get-take [] (suc n) i l = refl
slice_get-take (x ∷ xs) (suc n) zero l = refl
slice_get-take (x ∷ xs) (suc n) (suc i) l = slice_get-take xs n i (omega arith)

-- page i of a block
pub block_page : (g : Geometry) (image : Image) (b i row : ℕ) → row ≡ b * g.pages + i → i < g.pages → slice_get (block_pages g image b) i ≡ slice_get image row
block_page g image b i row at within = slice_get-take (drop (b * g.pages) image) (b * g.pages + g.pages - b * g.pages) i (omega arith) ∙ slice_get-drop image (b * g.pages) i row at

pub block_short : (g : Geometry) (image : Image) (b : ℕ) → length (block_pages g image b) ≤ g.pages
block_short g image b = omega (arith, length-take (b * g.pages + g.pages - b * g.pages) (drop (b * g.pages) image))

-- the block of the row has one page more
same_block : (g : Geometry) (image : Image) (b i row : ℕ) (p : Page) → row ≡ b * g.pages + i → i < g.pages → slice_get image row ≡ Some p
    → take (row + 1 - b * g.pages) (block_pages g image b) ≡ take (row - b * g.pages) (block_pages g image b) ++ p ∷ []
same_block g image b i row p at within is =
    let n : row + 1 - b * g.pages ≡ suc i = omega arith in
    let m : row - b * g.pages ≡ i = omega arith in
    rw (n, m) (take_one (block_pages g image b) i p (block_page g image b i row at within ∙ is))

-- each other block has the same pages as before
other_block : (g : Geometry) (image : Image) (b c i row : ℕ) → row ≡ b * g.pages + i → i < g.pages → c ≢ b
    → take (row + 1 - c * g.pages) (block_pages g image c) ≡ take (row - c * g.pages) (block_pages g image c)
other_block g image b c i row at within ne =
    elim (cases_order c b) [
      | inl same ↦ absurd (ne same)
      | inr (inl below) ↦
          let room : suc c * g.pages ≤ b * g.pages = mul-le-mul_right g.pages below in
          let one : suc c * g.pages ≡ c * g.pages + g.pages = omega arith in
          let short = block_short g image c in
          take_all (row + 1 - c * g.pages) (block_pages g image c) (omega arith) ∙ sym (take_all (row - c * g.pages) (block_pages g image c) (omega arith))
      | inr (inr above) ↦
          let room : suc b * g.pages ≤ c * g.pages = mul-le-mul_right g.pages above in
          let one : suc b * g.pages ≡ b * g.pages + g.pages = omega arith in
          let n : row + 1 - c * g.pages ≡ 0 = omega arith in
          let m : row - c * g.pages ≡ 0 = omega arith in
          rw (n, m)
    ]

not_zero : (i n : ℕ) → n ≡ i → eqb i 0 ≡ false → 0 < n
not_zero zero n e f = absurd cc
not_zero (suc i) n e f = omega arith

cases_block : (c b : ℕ) → (c ≡ b) ⊎ (c ≢ b)
cases_block c b = elim (cases_order c b) [
  | inl same ↦ inl same
  | inr (inl below) ↦ inr (λ e. absurd (omega arith))
  | inr (inr above) ↦ inr (λ e. absurd (omega arith))
]

pub looks_more : (g : Geometry) (image : Image) (row b i : ℕ) (items : List BlockLook) (p : Page) (first : Bool) (d : BlockLook) → HasLooks g image row items → row ≡ b * g.pages + i → i < g.pages → b < g.blocks → first ≡ eqb i 0 → slice_get image row ≡ Some p
    → HasLooks g image (row + 1) (set items b (look_step (get_or items b d) first (is_erased_page p) (record_of p)))
looks_more g image row b i items p first d h at within in_blocks e is =
    let ps = take (row - b * g.pages) (block_pages g image b) in
    let old : get_or items b d ≡ block_look_of ps = get_or_from_slice_get items b (block_look_of ps) d (h.at b in_blocks) in
    let page : slice_get (block_pages g image b) i ≡ Some p = block_page g image b i row at within ∙ is in
    let long = slice_get_within (block_pages g image b) i p page in
    let size : length ps ≡ i = omega (arith, length-take (row - b * g.pages) (block_pages g image b)) in
    let is_first : IsFirst first ps = record { yes = λ t. rw size (eqb-true i 0 (sym e ∙ t)); no = λ f. not_zero i (length ps) size (sym e ∙ f) } in
    let new = look_step (get_or items b d) first (is_erased_page p) (record_of p) in
    let step : new ≡ block_look_of (ps ++ p ∷ []) = ap (λ l. look_step l first (is_erased_page p) (record_of p)) old ∙ look_step-look_of ps p first is_first in
    let in_items : b < length items = omega (arith, h.size) in
    record {
      size = length-set items b new ∙ h.size;
      at = λ c k. elim (cases_block c b) [
        | inl same ↦ rw (same, slice_get-set_same items b new in_items, step, same_block g image b i row p at within is) refl
        | inr ne ↦ slice_get-set_other items b c new ne ∙ (h.at c k ∙ ap (λ l. Some (block_look_of l)) (sym (other_block g image b c i row at within ne)))
      ];
    }

pub bounded_set : (items : List BlockLook) (b row : ℕ) (new d : BlockLook) → b < length items → new.written ≤ (get_or items b d).written + 1 → All (λ l. l.written ≤ row) items → All (λ l. l.written ≤ row + 1) (set items b new)
bounded_set items b row new d l h all =
    let here = all b d l in
    let more : All (λ l. l.written ≤ row + 1) items = λ k e m. let x = all k e m in omega arith in
    All-set (λ l. l.written ≤ row + 1) items b new (omega arith) more

slice_get-replicate : {X : Type 0} (n i : ℕ) (x : X) → i < n → slice_get (replicate n x) i ≡ Some x
slice_get-replicate zero i x l = absurd (omega arith)
slice_get-replicate (suc n) zero x l = refl
slice_get-replicate (suc n) (suc i) x l = slice_get-replicate n i x (omega arith)

pub looks_start : (g : Geometry) (image : Image) (items : List BlockLook) (look : BlockLook) → look ≡ block_look_of [] → items ≡ replicate g.blocks look → HasLooks g image 0 items
looks_start g image items look unseen e = record {
  size = ap length e ∙ length-replicate g.blocks look;
  at = λ b k. let none : 0 - b * g.pages ≡ 0 = omega arith in ap (λ xs. slice_get xs b) e ∙ (slice_get-replicate g.blocks b look k ∙ rw none (ap Some unseen));
}

pub bounded_start : (n : ℕ) (look : BlockLook) → look ≡ block_look_of [] → All (λ l. l.written ≤ 0) (replicate n look)
unfolding block_look_of
bounded_start n look e k d l = rw (get_or-replicate n k look d (omega (arith, length-replicate n look)), e) (omega arith)
