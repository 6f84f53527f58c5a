-- How much of a half-done collection is left.
use Rattle.std.proofs.Common.{◌≡◌, ◌≢◌, ◌-◌, ◌⊎◌, inl, inr, ℕ, ◌+◌, ◌*◌, ◌/◌, ◌%◌, ◌<◌, ◌≤◌, ◌==◌, ◌&&◌, ◌||◌, Bool, true, false, not, List, [], ◌∷◌, ◌++◌, length, filter, map, count_by, min, replicate, Option, Some, None, MatchOption, count_ones, refl, ap, sym, ◌∙◌, subst, arith}
use Rattle.std.specs.List.{range_with_len}
use Rattle.std.specs.Map.{keys_of}
use Rattle.std.proofs.lemmas.Nat.{zero_from_ones}
use lib.Count.{ones_step}
use Rattle.std.proofs.lemmas.Bool.{cases_eq, cases_lt, cases_Bool, eq-eqb, eqb-true, ne_eqb}
use Rattle.page_layout.specs.declared.geometry.Geometry.{Geometry}
use Rattle.page_layout.specs.declared.record.Key.{Key}
use Rattle.page_layout.specs.declared.record.Key.TheVariants.{Sector, Translation, Table}
use Rattle.page_layout.specs.Page.{Image}
use Rattle.page_layout.specs.Geometry.{translation_pages, table_pages, entries, vmax, vmax_at}
use Rattle.page_layout.specs.Array.{marks}
use Rattle.page_layout.specs.Newest.{newest}
use Rattle.page_layout.specs.Live.{live, keys, is_in_block, IsKeyOf}
use Rattle.page_layout.proofs.CountLemmas.{bit, count_by-cons, count_by-append, count_by-map}
use Rattle.budget.proofs.CopyLemmas.{copies_fit, copies_fit_at, touched_pages}
use Rattle.page_layout.proofs.GeometryLemmas.{no_share}
use Rattle.std.specs.Int.{div_ceil}
use Rattle.std.proofs.lemmas.Grind.{div_ceil_times}
use Rattle.mapping_cache.specs.Mapping.{moved_in, per_page}
use Rattle.allocation.specs.State.{live_at}
use Rattle.allocation.proofs.CountLemmas.{count_has}
use Rattle.collection.specs.declared.engine.Pinned.{Pinned}
use Rattle.collection.specs.State.{Ram, Pin}
use Rattle.collection.specs.Safe.{IsRam, is_shut}
use Rattle.collection.specs.Pages.{newest_row}
use Rattle.collection.specs.Truth.{IsTrue}
use Rattle.collection.specs.Live.{NotAt, HoldsNoneIn}
use Rattle.collection.specs.Results.{LeavesNewest}
use Rattle.collection.specs.Collect.{has_moved, is_owed, owed_count, waiting, HasWritten}
use Rattle.collection.specs.Left.{sectors_in_block, is_of_some, is_touched, touched_count, batches, moves_in, write_backs_in, left_to_program, IsHalfDone, IsCalm, LeavesPin, TouchesNoMore}
use Rattle.collection.proofs.Copies.{exact_at}
use Rattle.collection.proofs.Dues.{HasFollowed, HasCleaned, cleaned_owed, other_owed, same_owed, unmarked_key, one_less, some_positive, moved_count, length_keys}
use Rattle.collection.proofs.Batches.{div_ceil_le, batches_le, batches_less}
use Rattle.collection.proofs.Ledgers.{sets_share}
use Rattle.collection.proofs.HalfDone.{calm_half}
use Rattle.collection.proofs.Lowest.{shut_closed, none_leaves}
use Rattle.collection.proofs.Rooms.{count_less, in_by, shut_fewer}

-- ---- counts

filter_step : {X : Type 0} (p : X → Bool) (x : X) (xs : List X) (b : Bool) → p x ≡ b → length (filter p (x ∷ xs)) ≡ bit b + length (filter p xs)
filter_step p x xs true is = rw is (omega arith)
filter_step p x xs false is = rw is (omega arith)

length_filter : {X : Type 0} (p : X → Bool) (xs : List X) → length (filter p xs) ≡ count_by p xs
length_filter p [] = refl
length_filter p (x ∷ xs) = omega (arith, filter_step p x xs (p x) refl, length_filter p xs, count_by-cons p x xs)

-- those of a list that pass one test, counted by another
both_step : {X : Type 0} (c p : X → Bool) (x : X) (xs : List X) (b : Bool) → p x ≡ b → count_by c (filter p (x ∷ xs)) ≡ bit (b && c x) + count_by c (filter p xs)
both_step c p x xs true is = rw is (count_by-cons c x (filter p xs))
both_step c p x xs false is = rw is (omega arith)

-- fewer pass a narrower test
pub count_filter : {X : Type 0} (c p q : X → Bool) (xs : List X) → ((x : X) → q x ≡ true → p x ≡ true) → count_by c (filter q xs) ≤ count_by c (filter p xs)
count_filter c p q [] imply = omega arith
count_filter c p q (x ∷ xs) imply = (let rest = count_filter c p q xs imply in omega (arith, rest, both_step c p x xs (p x) refl, both_step c q x xs (q x) refl, bits (q x) (p x) (c x) (imply x)))
  where
    bits : (a b d : Bool) → (a ≡ true → b ≡ true) → bit (a && d) ≤ bit (b && d)
    bits false b d i = omega arith
    bits true b d i = (let e : bit (b && d) ≡ bit d = ap (λ z. bit (z && d)) (i refl) in omega arith)

-- ---- words of the definitions

or_right : (a b : Bool) → b ≡ true → (a || b) ≡ true
or_right true b e = refl
or_right false b e = e

pub or_left : (a b : Bool) → a ≡ true → (a || b) ≡ true
or_left true b e = refl
or_left false b e = (let no : ⊥ = cc in absurd no)

or_cases : (a b : Bool) → (a || b) ≡ true → (a ≡ true) ⊎ (b ≡ true)
or_cases true b e = inl refl
or_cases false b e = inr e

positive_some : (n : ℕ) → 0 < n → not (n == 0) ≡ true
positive_some n e = ap not (ne_eqb n 0 (λ z. (let no : ⊥ = absurd (omega arith) in no)))

-- ---- the sectors in a block

sectors_live : (g : Geometry) (image : Image) (block : ℕ) → length (sectors_in_block g image block) ≤ live g (marks image) block
unfolding live keys
sectors_live g image block =
    let p : Key → Bool = λ key. is_in_block g.pages block (newest (marks image) key) in
    let e = length_filter (λ n. p (Sector n)) (range_with_len 0 g.sectors) in
    let m = count_by-map p Sector (range_with_len 0 g.sectors) in
    let a = count_by-append p (map Sector (range_with_len 0 g.sectors)) (map Translation (range_with_len 0 (translation_pages g)) ++ map Table (range_with_len 0 (table_pages g))) in
    omega (arith, e, m, a)

exact_live : (r : Ram) (image : Image) (block : ℕ) → IsRam r → IsTrue None r image → block < r.geometry.blocks → length (sectors_in_block r.geometry image block) ≤ live_at r.blocks block
exact_live r image block s w lt = omega (arith, sectors_live r.geometry image block, exact_at r image block s w lt)

-- no newest page comes into a shut block
stays_in : (r r' : Ram) (x y : Image) (block n : ℕ) → r'.geometry ≡ r.geometry → is_shut r.blocks block ≡ true → LeavesNewest r x y → is_in_block r.geometry.pages block (newest_row y (Sector n)) ≡ true → is_in_block r.geometry.pages block (newest_row x (Sector n)) ≡ true
stays_in r r' x y block n same shut l is =
    let at = in_by r.geometry.pages block (newest_row y (Sector n)) is in
    elim (l.each (Sector n)) [
      | inl stayed ↦ ap (is_in_block r.geometry.pages block) (sym stayed) ∙ is
      | inr out ↦
          let unshut : is_shut r.blocks block ≡ false = ap (is_shut r.blocks) (sym at.2) ∙ out at.0 at.1 in
          let no : true ≡ false = sym shut ∙ unshut in
          let never : ⊥ = cc in absurd never
    ]

some_stays : (r r' : Ram) (x y : Image) (block t : ℕ) → r'.geometry ≡ r.geometry → is_shut r.blocks block ≡ true → LeavesNewest r x y
    → is_of_some (entries r'.geometry) (sectors_in_block r'.geometry y block) t ≡ true
    → is_of_some (entries r.geometry) (sectors_in_block r.geometry x block) t ≡ true
some_stays r r' x y block t same shut l is =
    let here : is_of_some (entries r.geometry) (sectors_in_block r.geometry y block) t ≡ true = (let P : Geometry → Type 0 = λ g. is_of_some (entries g) (sectors_in_block g y block) t ≡ true in subst P same is) in
    let fewer = count_filter (λ n. n / entries r.geometry == t) (λ n. is_in_block r.geometry.pages block (newest_row x (Sector n)))
    (λ n. is_in_block r.geometry.pages block (newest_row y (Sector n))) (range_with_len 0 r.geometry.sectors)
    (λ n now. stays_in r r' x y block n same shut l now) in
    let some = some_positive (count_by (λ n. n / entries r.geometry == t) (sectors_in_block r.geometry y block)) here in
    positive_some (count_by (λ n. n / entries r.geometry == t) (sectors_in_block r.geometry x block)) (omega arith)

-- as many translation pages are touched, or fewer
pub touched_kept : (flushing : Bool) (r r' : Ram) (x y : Image) (block : ℕ) → r'.geometry ≡ r.geometry → is_shut r.blocks block ≡ true
    → LeavesNewest r x y → ((t : ℕ) → is_owed flushing r' t ≡ true → is_touched flushing r x block t ≡ true)
    → touched_count flushing r' y block ≤ touched_count flushing r x block
touched_kept flushing r r' x y block same shut l due =
    let e : count_by (is_touched flushing r' y block) (range_with_len 0 (translation_pages r.geometry)) ≤ touched_count flushing r x block =
    count_less (is_touched flushing r x block) (is_touched flushing r' y block) (range_with_len 0 (translation_pages r.geometry))
    (λ t is. elim (or_cases (is_owed flushing r' t) (is_of_some (entries r'.geometry) (sectors_in_block r'.geometry y block) t) is) [
      | inl first ↦ due t first
      | inr second ↦ or_right (is_owed flushing r t) (is_of_some (entries r.geometry) (sectors_in_block r.geometry x block) t) (some_stays r r' x y block t same shut l second)
    ]) in
    let P : Geometry → Type 0 = λ g. count_by (is_touched flushing r' y block) (range_with_len 0 (translation_pages g)) ≤ touched_count flushing r x block in
    subst P (sym same) e

-- as many sectors are moved or will be, or fewer: so are the batches
written_kept : (flushing : Bool) (r r' : Ram) (x y : Image) (block : ℕ) → r'.geometry ≡ r.geometry → is_shut r.blocks block ≡ true → LeavesNewest r x y
    → TouchesNoMore flushing block r x r' y → write_backs_in flushing r' y block ≤ write_backs_in flushing r x block
written_kept true r r' x y block same shut l t = touched_kept true r r' x y block same shut l t.pages
written_kept false r r' x y block same shut l t =
    let touched = touched_kept false r r' x y block same shut l t.pages in
    let fewer = batches_le r.mapping.share (waiting r) (moves_in r' y block) (moves_in r x block) t.moves in
    let may : batches r'.mapping.share (waiting r') (moves_in r' y block) ≡ batches r.mapping.share (waiting r) (moves_in r' y block) = rw (t.share, same) refl in
    omega arith

pub copy_law : Rattle.collection.specs.Left.CopyLaw
copy_law flushing r r' x y block lt closed same l touches fewer =
    let e = written_kept flushing r r' x y block same (shut_closed r.blocks block closed) l touches in
    omega (arith, e, fewer)

-- ---- what a copy touches

count_both : {X : Type 0} (c p : X → Bool) (xs : List X) → count_by c (filter p xs) ≡ count_by (λ x. p x && c x) xs
count_both c p [] = refl
count_both c p (x ∷ xs) = omega (arith, count_both c p xs, both_step c p x xs (p x) refl, count_by-cons (λ z. p z && c z) x xs)

-- a sector of the page has its newest page there
of_some_here : (g : Geometry) (image : Image) (block n : ℕ) → n < g.sectors → is_in_block g.pages block (newest_row image (Sector n)) ≡ true → is_of_some (entries g) (sectors_in_block g image block) (n / entries g) ≡ true
of_some_here g image block n lt here =
    let c : ℕ → Bool = λ k. k / entries g == n / entries g in
    let p : ℕ → Bool = λ k. is_in_block g.pages block (newest_row image (Sector k)) in
    let both : (p n && c n) ≡ true = ap (λ b. b && c n) here ∙ eq-eqb (n / entries g) (n / entries g) refl in
    let some = count_has (λ k. p k && c k) n 0 g.sectors both (omega arith) (omega arith) in
    positive_some (count_by c (sectors_in_block g image block)) (omega (arith, some, count_both c p (range_with_len 0 g.sectors)))

copied_pages : (flushing : Bool) (key : Key) (row at : ℕ) (r r' : Ram) (image : Image) → IsRam r → IsKeyOf r.geometry key → newest_row image key ≡ Some row → HasFollowed flushing key at r r'
    → (t : ℕ) → is_owed flushing r' t ≡ true → is_touched flushing r image (row / r.geometry.pages) t ≡ true
copied_pages flushing (Sector n) row at r r' image s of_key is f t due = elim (cases_eq t (n / entries r.geometry)) [
  | inl here ↦
      let block : ℕ = row / r.geometry.pages in
      let in_block : is_in_block r.geometry.pages block (newest_row image (Sector n)) ≡ true = ap (is_in_block r.geometry.pages block) is ∙ eq-eqb block block refl in
      or_right (is_owed flushing r t) (is_of_some (entries r.geometry) (sectors_in_block r.geometry image block) t) (ap (is_of_some (entries r.geometry) (sectors_in_block r.geometry image block)) here ∙ of_some_here r.geometry image block n of_key in_block)
  | inr ne ↦ or_left (is_owed flushing r t) (is_of_some (entries r.geometry) (sectors_in_block r.geometry image (row / r.geometry.pages)) t) (sym (other_owed flushing n at r r' s f t ne) ∙ due)
]
copied_pages flushing (Translation u) row at r r' image s of_key is f t due = or_left (is_owed flushing r t)
    (is_of_some (entries r.geometry) (sectors_in_block r.geometry image (row / r.geometry.pages)) t)
    (sym (same_owed flushing r r' f.mapping (f.marks ∙ unmarked_key flushing r.geometry (Translation u) r.pin.marks (λ n x. (let no : ⊥ = cc in no))) t) ∙ due)
copied_pages flushing (Table u) row at r r' image s of_key is f t due = or_left (is_owed flushing r t)
    (is_of_some (entries r.geometry) (sectors_in_block r.geometry image (row / r.geometry.pages)) t)
    (sym (same_owed flushing r r' f.mapping (f.marks ∙ unmarked_key flushing r.geometry (Table u) r.pin.marks (λ n x. (let no : ⊥ = cc in no))) t) ∙ due)

-- the sectors that have their newest page in a shut block after a copy had it there before
kept_sectors : (r r' : Ram) (x y : Image) (block : ℕ) → r'.geometry ≡ r.geometry → is_shut r.blocks block ≡ true → LeavesNewest r x y → length (sectors_in_block r'.geometry y block) ≤ length (sectors_in_block r.geometry x block)
kept_sectors r r' x y block same shut l =
    let p : ℕ → Bool = λ n. is_in_block r.geometry.pages block (newest_row x (Sector n)) in
    let q : ℕ → Bool = λ n. is_in_block r.geometry.pages block (newest_row y (Sector n)) in
    let fewer = count_less p q (range_with_len 0 r.geometry.sectors) (λ n now. stays_in r r' x y block n same shut l now) in
    let before = length_filter p (range_with_len 0 r.geometry.sectors) in
    let after = length_filter q (range_with_len 0 r.geometry.sectors) in
    let here : length (sectors_in_block r.geometry y block) ≤ length (sectors_in_block r.geometry x block) = omega arith in
    (let P : Geometry → Type 0 = λ g. length (sectors_in_block g y block) ≤ length (sectors_in_block r.geometry x block) in subst P (sym same) here)

-- a sector whose page was copied out of it is not one of them
out_of_block : (r r' : Ram) (x y : Image) (row n : ℕ) → r'.geometry ≡ r.geometry → is_shut r.blocks (row / r.geometry.pages) ≡ true → LeavesNewest r x y → NotAt row y → newest_row x (Sector n) ≡ Some row
    → is_in_block r.geometry.pages (row / r.geometry.pages) (newest_row y (Sector n)) ≡ false
out_of_block r r' x y row n same shut l gone is = elim (cases_Bool (is_in_block r.geometry.pages (row / r.geometry.pages) (newest_row y (Sector n)))) [
  | inl here ↦
      let at = in_by r.geometry.pages (row / r.geometry.pages) (newest_row y (Sector n)) here in
      elim (l.each (Sector n)) [
        | inl stayed ↦ (let no : ⊥ = gone (Sector n) (stayed ∙ is) in absurd no)
        | inr out ↦
            let unshut : is_shut r.blocks (row / r.geometry.pages) ≡ false = ap (is_shut r.blocks) (sym at.2) ∙ out at.0 at.1 in
            let no : true ≡ false = sym shut ∙ unshut in
            let never : ⊥ = cc in absurd never
      ]
  | inr off ↦ off
]

fewer_sectors : (r r' : Ram) (x y : Image) (row n : ℕ) → r'.geometry ≡ r.geometry → is_shut r.blocks (row / r.geometry.pages) ≡ true → LeavesNewest r x y → NotAt row y → n < r.geometry.sectors → newest_row x (Sector n) ≡ Some row
    → length (sectors_in_block r'.geometry y (row / r.geometry.pages)) + 1 ≤ length (sectors_in_block r.geometry x (row / r.geometry.pages))
fewer_sectors r r' x y row n same shut l gone lt is =
    let block : ℕ = row / r.geometry.pages in
    let p : ℕ → Bool = λ k. is_in_block r.geometry.pages block (newest_row x (Sector k)) in
    let q : ℕ → Bool = λ k. is_in_block r.geometry.pages block (newest_row y (Sector k)) in
    let but : ℕ → Bool = λ k. p k && not (k == n) in
    let all : List ℕ = range_with_len 0 r.geometry.sectors in
    let within : (k : ℕ) → q k ≡ true → but k ≡ true = λ k now. (
    let was : p k ≡ true = stays_in r r' x y block k same shut l now in
    let other : k ≢ n = λ e. (let off = out_of_block r r' x y row n same shut l gone is in let on : q n ≡ true = ap q (sym e) ∙ now in let no : ⊥ = cc in no) in
    ap (λ b. b && not (k == n)) was ∙ ap not (ne_eqb k n other)) in
    let fewer = count_less but q all within in
    let here : p n ≡ true = ap (is_in_block r.geometry.pages block) is ∙ eq-eqb block block refl in
    let gone_now : but n ≡ false = ap (λ b. b && not (n == n)) here ∙ ap not (eq-eqb n n refl) in
    let less = one_less p but n r.geometry.sectors (λ k ne. and_true (p k) (not (k == n)) (ap not (ne_eqb k n ne))) lt here gone_now in
    let before = length_filter p all in
    let after = length_filter q all in
    let less_here : length (sectors_in_block r.geometry y block) + 1 ≤ length (sectors_in_block r.geometry x block) = omega arith in
    (let P : Geometry → Type 0 = λ g. length (sectors_in_block g y block) + 1 ≤ length (sectors_in_block r.geometry x block) in subst P (sym same) less_here)
  where
    and_true : (a b : Bool) → b ≡ true → (a && b) ≡ a
    and_true true b is = is
    and_true false b is = refl

copied_moves : (flushing : Bool) (key : Key) (row at : ℕ) (r r' : Ram) (x y : Image) → IsKeyOf r.geometry key → newest_row x key ≡ Some row → HasFollowed flushing key at r r' → is_shut r.blocks (row / r.geometry.pages) ≡ true
    → LeavesNewest r x y → NotAt row y → length r'.mapping.moved ≤ length r.mapping.moved + 1 → moves_in r' y (row / r.geometry.pages) ≤ moves_in r x (row / r.geometry.pages)
copied_moves flushing (Sector n) row at r r' x y of_key is f shut l gone more = (let fewer = fewer_sectors r r' x y row n f.geometry shut l gone of_key is in omega arith)
copied_moves flushing (Translation u) row at r r' x y of_key is f shut l gone more = (let kept = kept_sectors r r' x y (row / r.geometry.pages) f.geometry shut l in let same : length r'.mapping.moved ≡ length r.mapping.moved = ap (λ m. length m.moved) f.mapping in omega arith)
copied_moves flushing (Table u) row at r r' x y of_key is f shut l gone more = (let kept = kept_sectors r r' x y (row / r.geometry.pages) f.geometry shut l in let same : length r'.mapping.moved ≡ length r.mapping.moved = ap (λ m. length m.moved) f.mapping in omega arith)

pub copied_touches : (flushing : Bool) (key : Key) (row at : ℕ) (r r' : Ram) (x y : Image) → IsRam r → IsKeyOf r.geometry key → newest_row x key ≡ Some row → HasFollowed flushing key at r r' → is_shut r.blocks (row / r.geometry.pages) ≡ true
    → LeavesNewest r x y → NotAt row y → length r'.mapping.moved ≤ length r.mapping.moved + 1 → TouchesNoMore flushing (row / r.geometry.pages) r x r' y
copied_touches flushing key row at r r' x y s of_key is f shut l gone more = record {
  pages = copied_pages flushing key row at r r' x s of_key is f;
  share = sets_share key at r.mapping r'.mapping f.mapping;
  moves = copied_moves flushing key row at r r' x y of_key is f shut l gone more;
}

-- a translation page that is written back in place of copied touches none
pub cleaned_touches : (flushing : Bool) (t block : ℕ) (r r' : Ram) (x y : Image) → HasCleaned t r r' → length r'.mapping.moved ≤ length r.mapping.moved
    → is_shut r.blocks block ≡ true → LeavesNewest r x y → TouchesNoMore flushing block r x r' y
cleaned_touches flushing t block r r' x y f fewer shut l = record {
  pages = λ k owed. or_left (is_owed flushing r k) (is_of_some (entries r.geometry) (sectors_in_block r.geometry x block) k) (cleaned_owed t r r' f flushing k owed);
  share = ap (λ m. m.share) f.mapping;
  moves = (let kept = kept_sectors r r' x y block f.geometry shut l in omega (arith, kept, fewer));
}

-- ---- once no newest page is left

none_in_block : (r : Ram) (x : Image) (block t : ℕ) → IsRam r → IsTrue None r x → block < r.geometry.blocks → live_at r.blocks block ≡ 0 → is_of_some (entries r.geometry) (sectors_in_block r.geometry x block) t ≡ false
none_in_block r x block t s w lt zero_is = at (sectors_in_block r.geometry x block) (omega (arith, exact_live r x block s w lt, zero_is))
  where
    at : (ns : List ℕ) → length ns ≤ 0 → is_of_some (entries r.geometry) ns t ≡ false
    at [] le = refl
    at (n ∷ ns) le = absurd (omega arith)

or_none : (a b : Bool) → b ≡ false → (a || b) ≡ a
or_none true b e = refl
or_none false b e = e

touched_at_end : (flushing : Bool) (r : Ram) (x : Image) (block : ℕ) → IsRam r → IsTrue None r x → block < r.geometry.blocks → live_at r.blocks block ≡ 0 → touched_count flushing r x block ≡ owed_count flushing r
touched_at_end flushing r x block s w lt zero_is = Rattle.page_layout.proofs.CountLemmas.count_by-same (is_touched flushing r x block)
    (is_owed flushing r) (range_with_len 0 (translation_pages r.geometry))
    (λ t. or_none (is_owed flushing r t) (is_of_some (entries r.geometry) (sectors_in_block r.geometry x block) t) (none_in_block r x block t s w lt zero_is))

-- a translation page that is written back is owed no more
touched_less : (flushing : Bool) (r r' : Ram) (x y : Image) (block : ℕ) → IsRam r' → IsTrue None r' y → block < r.geometry.blocks → r'.geometry ≡ r.geometry → live_at r'.blocks block ≡ 0
    → HasWritten flushing r r' → touched_count flushing r' y block + 1 ≤ touched_count flushing r x block
touched_less flushing r r' x y block s' w' lt same now cost =
    let a : owed_count flushing r ≤ touched_count flushing r x block = count_less (is_touched flushing r x block) (is_owed flushing r)
    (range_with_len 0 (translation_pages r.geometry))
    (λ t owed. or_left (is_owed flushing r t) (is_of_some (entries r.geometry) (sectors_in_block r.geometry x block) t) owed) in
    let b = touched_at_end flushing r' y block s' w' (rw same lt) now in
    let c = cost.owed in
    omega arith

pub write_law : Rattle.collection.specs.Left.TranslationWriteLaw
write_law flushing r r' x y block s' w' lt same now cost =
    let touched = touched_less flushing r r' x y block s' w' lt same now cost in
    by flushing refl touched
  where
    none_left : length (sectors_in_block r'.geometry y block) ≤ 0
    none_left = (let few = exact_live r' y block s' w' (rw same lt) in omega arith)

    by : (b : Bool) → flushing ≡ b → touched_count b r' y block + 1 ≤ touched_count b r x block → live_at r'.blocks block + write_backs_in b r' y block + 1 ≤ live_at r.blocks block + write_backs_in b r x block
    by true is touched = omega arith
    by false is touched =
        let many = cost.many is in
        let lowest = cost.lowest.many is in
        let share : r'.mapping.share ≡ r.mapping.share = ap (λ m. m.share) cost.mapping in
        let fewer = batches_less r.mapping.share (waiting r) (moves_in r' y block) (moves_in r x block) (let none = none_left in omega arith) (omega arith) in
        let may : batches r'.mapping.share (waiting r') (moves_in r' y block) ≡ batches r.mapping.share (waiting r) (moves_in r' y block) = rw (share, same) refl in
        omega arith

-- ---- how small it is

or_false : (b : Bool) → (b || false) ≡ true → b ≡ true
or_false true e = refl
or_false false e = e

-- all the sectors that touch a translation page
module _ (r : Ram) (x : Image) (block : ℕ) (s : IsRam r) where
  touched_all : touched_count false r x block ≤ min (moves_in r x block) (translation_pages r.geometry)
  touched_all =
      let own : List ℕ = sectors_in_block r.geometry x block in
      let all : List ℕ = own ++ keys_of r.mapping.moved in
      let page : ℕ → ℕ → Bool = λ t n. n / entries r.geometry == t in
      let pp : per_page r.mapping ≡ entries r.geometry = ap entries s.mapping_of in
      let has : (t : ℕ) → t < translation_pages r.geometry → is_touched false r x block t ≡ true → 0 < count_by (page t) all = λ t below is.
      let sum = count_by-append (page t) own (keys_of r.mapping.moved) in
      elim (or_cases (is_owed false r t) (is_of_some (entries r.geometry) own t) is) [
        | inl first ↦
            let there : 0 < length (moved_in (per_page r.mapping) t r.mapping.moved) = some_positive (length (moved_in (per_page r.mapping) t r.mapping.moved)) (or_false (has_moved r.mapping t) first) in
            let there' : 0 < length (moved_in (entries r.geometry) t r.mapping.moved) = (let P : ℕ → Type 0 = λ k. 0 < length (moved_in k t r.mapping.moved) in subst P pp there) in
            omega (arith, sum, there', moved_count (entries r.geometry) t r.mapping.moved)
        | inr second ↦ omega (arith, sum, some_positive (count_by (page t) own) second)
      ] in
      let e = touched_pages (entries r.geometry) (translation_pages r.geometry) all (is_touched false r x block) has in
      let both : length all ≡ length own + length (keys_of r.mapping.moved) = Rattle.std.proofs.lemmas.List.length-append own (keys_of r.mapping.moved) in
      omega (arith, e, both, length_keys r.mapping.moved)

  touched_few : IsTrue None r x → block < r.geometry.blocks → touched_count false r x block ≤ min (live_at r.blocks block + length r.mapping.moved) (translation_pages r.geometry)
  touched_few w lt = (let all = touched_all in let few = exact_live r x block s w lt in omega arith)

-- with share 0 each moved sector is a batch
pub touched_law : Rattle.collection.specs.Left.UnsharedTouchedLaw
touched_law r x block s unshared =
    let touched = touched_all r x block s in
    let may : waiting r ≡ 0 = rw unshared (omega arith) in
    let single : (n : ℕ) → n ≤ div_ceil n 1 = λ n. (let all = (div_ceil_times n 1 (omega arith)).0 in omega arith) in
    let all = single (moves_in r x block - waiting r) in
    let batches_are : batches r.mapping.share (waiting r) (moves_in r x block) ≡ div_ceil (moves_in r x block - waiting r) 1 = ap (λ share. div_ceil (moves_in r x block - waiting r) (share + 1)) unshared in
    omega arith

-- a power of two from four on is even
even_power : (n : ℕ) → count_ones n ≡ 1 → 4 ≤ n → n / 2 * 2 ≡ n
even_power n one least = elim (cases_lt 0 (n % 2)) [
  | inl odd ↦
      let rest : count_ones (n / 2) ≡ 0 = (let step = ones_step n in omega arith) in
      let none : n / 2 ≡ 0 = zero_from_ones (n / 2) rest in
      absurd (omega arith)
  | inr even ↦ omega arith
]

even_pages : (g : Geometry) → g.pages / 2 * 2 ≡ g.pages
even_pages g = even_power g.pages (eqb-true (count_ones g.pages) 1 g.limits.page_count.power) g.limits.page_count.least

pub left_law : Rattle.collection.specs.Left.LeftLaw
left_law r x p s w few =
    let touched = touched_few r x p.block s w few.within in
    let live = exact_live r x p.block s w few.within in
    let all : ℕ = live_at r.blocks p.block + (length r.mapping.moved - waiting r) in
    let small = few.small in
    let moved = few.moved in
    let fits = copies_fit_at r.geometry r.mapping.share all (omega arith) in
    let fewer : batches r.mapping.share (waiting r) (moves_in r x p.block) ≤ div_ceil all (r.mapping.share + 1) = div_ceil_le (moves_in r x p.block - waiting r) all (r.mapping.share + 1) (omega arith) (omega arith) in
    omega arith

few_fit : (g : Geometry) (live_pages moved : ℕ) → g.pages / 2 * 2 ≡ g.pages → live_pages + moved ≤ vmax_at g 0 + 1 → live_pages ≤ vmax_at g 0 → live_pages + min (live_pages + moved) (translation_pages g) + 1 ≤ g.pages
few_fit g v m even le small =
    let pages = g.limits.page_count.least in
    let same = (no_share g).vmax in
    let one = copies_fit g (vmax g) (omega arith) in
    omega arith

pub unshared_left_law : Rattle.collection.specs.Left.UnsharedLeftLaw
unshared_left_law r x p s w unshared few =
    let e = touched_few r x p.block s w few.within in
    let may : waiting r ≡ 0 = rw unshared (omega arith) in
    let moved : live_at r.blocks p.block + length r.mapping.moved ≤ vmax_at r.geometry 0 + 1 = (let m = few.moved in let v : vmax_at r.geometry r.mapping.share ≡ vmax_at r.geometry 0 = ap (vmax_at r.geometry) unshared in omega arith) in
    let small : live_at r.blocks p.block ≤ vmax_at r.geometry 0 = (let m = few.small in let v : vmax_at r.geometry r.mapping.share ≡ vmax_at r.geometry 0 = ap (vmax_at r.geometry) unshared in omega arith) in
    let f = few_fit r.geometry (live_at r.blocks p.block) (length r.mapping.moved) (even_pages r.geometry) moved small in
    omega arith

pub pin_law : Rattle.collection.specs.Left.PinLaw
pin_law r p lt none small = record { within = lt; small = small; moved = omega (arith, none, small) }

-- ---- other calls

-- a call that leaves the pin touches no more
kept_touches : (r r' : Ram) (x y : Image) (block : ℕ) → is_shut r.blocks block ≡ true → LeavesPin r r' → LeavesNewest r x y → TouchesNoMore false block r x r' y
kept_touches r r' x y block shut f l = record {
  pages = λ t owed. or_left (is_owed false r t) (is_of_some (entries r.geometry) (sectors_in_block r.geometry x block) t) (or_left (has_moved r.mapping t) false (f.moved t (or_false (has_moved r'.mapping t) owed)));
  share = f.share;
  moves = (let fewer = f.fewer in let kept = kept_sectors r r' x y block f.goes.geometry shut l in omega arith);
}

pub kept_law : Rattle.collection.specs.Left.LeftNeverRisesLaw
kept_law r r' x y block s s' w w' lt closed f l =
    let shut : is_shut r.blocks block ≡ true = shut_closed r.blocks block closed in
    let e = written_kept false r r' x y block f.goes.geometry shut l (kept_touches r r' x y block shut f l) in
    let fewer = shut_fewer r r' x y block s s' f.goes.geometry w w' l lt shut in
    omega (arith, e, fewer)

-- a block that is pinned after the call was before
was_pinned : (r r' : Ram) (p : Pinned) → r'.pin ≡ r.pin → r'.pin.block ≡ Some p → r.pin.block ≡ Some p
was_pinned r r' p same is = ap (λ (z : Pin). z.block) (sym same) ∙ is

may_kept : (r r' : Ram) → LeavesPin r r' → waiting r' ≡ waiting r
may_kept r r' f = rw (f.share, f.goes.geometry) refl

half_kept : (r r' : Ram) (p : Pinned) → LeavesPin r r' → IsHalfDone r p → IsHalfDone r' p
half_kept r r' p f h = record {
  within = (let e = h.within in rw f.goes.geometry e);
  closed = (f.goes.shut p.block h.within (shut_closed r.blocks p.block h.closed)).closed ∙ h.closed;
  passed = (let e = h.passed in let may = may_kept r r' f in omega (arith, f.fewer));
  on_die = (let e = h.on_die in rw f.goes.geometry e);
}

pub calm_law : Rattle.collection.specs.Left.StaysCalmLaw
calm_law r r' f calm = record {
  unmarked = ap (λ (z : Pin). z.marks) f.pin ∙ (calm.unmarked ∙ ap (λ g. replicate (translation_pages g) false) (sym f.goes.geometry));
  pinned = (let P : Option Pinned → Type 0 = λ o. MatchOption o (length r'.mapping.moved ≤ waiting r') (IsHalfDone r') in subst P (ap (λ (z : Pin). z.block) (sym f.pin)) (by r.pin.block calm.pinned));
}
  where
    by : (o : Option Pinned) → MatchOption o (length r.mapping.moved ≤ waiting r) (IsHalfDone r) → MatchOption o (length r'.mapping.moved ≤ waiting r') (IsHalfDone r')
    by None few = (let may = may_kept r r' f in omega (arith, few, f.fewer))
    by (Some p) h = half_kept r r' p f h

pub passed_law : Rattle.collection.specs.Left.PassedLaw
passed_law r r' x y calm f l h = λ p is.
    let was : r.pin.block ≡ Some p = was_pinned r r' p f.pin is in
    let half : IsHalfDone r p = calm_half r p calm was in
    let e : HoldsNoneIn r.geometry.pages p.block 0 p.first y = none_leaves r x y p.block 0 p.first (shut_closed r.blocks p.block half.closed) half.on_die l (h p was) in
    let P : Geometry → Type 0 = λ g. HoldsNoneIn g.pages p.block 0 p.first y in
    subst P (sym f.goes.geometry) e

pub few_law : Rattle.collection.specs.Left.StaysFewLaw
few_law extra r r' x y s s' w w' calm f l few = λ p is.
    let was : r.pin.block ≡ Some p = was_pinned r r' p f.pin is in
    let half : IsHalfDone r p = calm_half r p calm was in
    let fewer = shut_fewer r r' x y p.block s s' f.goes.geometry w w' l half.within (shut_closed r.blocks p.block half.closed) in
    let same : vmax_at r'.geometry r'.mapping.share ≡ vmax_at r.geometry r.mapping.share = rw (f.share, f.goes.geometry) refl in
    let may = may_kept r r' f in
    let it = few p was in
    let small = it.small in
    let moved = it.moved in
    record {
      within = (let lt = half.within in rw f.goes.geometry lt);
      small = omega (arith, fewer, same, small);
      moved = omega (arith, fewer, same, moved, may, f.fewer);
    }
