-- What is found while pages are tried.
use Rattle.std.proofs.Common.{◌≡◌, ◌≢◌, ℕ, zero, suc, ◌+◌, ◌-◌, ◌*◌, ◌<◌, ◌≤◌, Bool, true, false, cond, List, [], ◌∷◌, ◌++◌, length, get_or, take, drop, refl, sym, ap, ◌∙◌, subst, arith, append-nil, append_assoc, length-append}
use Rattle.std.specs.Prelude.{All, nat_le, ◌||◌}
use Rattle.std.specs.List.{filter, list_any, range_with_len}
use Rattle.std.proofs.Math.Nat.{mul-le-mul_right}
use Rattle.std.proofs.lemmas.Bool.{and_from, and_left, and_right, le-leb, lt-leb}
use Rattle.std.proofs.lemmas.List.{length-map, get_or-map, map-append, take_all, length-take-le, length-drop}
use Rattle.std.proofs.lemmas.List.Folds.{list_any_at, list_any_more}
use Rattle.std.proofs.lemmas.List.Elements.{All-nil, All-cons, All-head, All-tail, All-push, filter-append}
use Rattle.page_layout.specs.declared.geometry.Geometry.{Geometry}
use Rattle.page_layout.specs.Geometry.{page_bytes}
use Rattle.page_layout.specs.Page.{Page}
use Rattle.lab_dump.specs.PageBytes.{bits_of, bit_count, is_sound, page_bit, page_from_bytes}
use Rattle.lab_mend.specs.declared.choice.Origin.TheVariants.{Tried, Unsound}
use Rattle.lab_mend.specs.declared.trial.Trial.TheVariants.{Taken, Tied, Nothing}
use Rattle.lab_mend.specs.declared.trial.Met.{Met}
use Rattle.lab_mend.specs.Bits.{turned_bytes, with_bit_turned}
use Rattle.lab_mend.specs.Pages.{piece_at, page_of_reading}
use Rattle.lab_mend.specs.Trial.{differ_in, differing_bits, with_turned}
use Rattle.lab_mend.specs.Choice.{chosen, by_found, by_turns, by_trial, by_programmed}
use Rattle.lab_mend.specs.Found.{HasTwo, programmed_below}
use Rattle.page_layout.specs.Block.{is_programmed}
use Rattle.lab_mend.specs.Tried.{HasFirst, SoundPagesComeTo, pages_at, first_at, with_bit, with_place}
use Rattle.lab_mend.proofs.BitLemmas.{turned_page, count_page}
use Rattle.lab_mend.proofs.MajorityLemmas.{range_more}
use Rattle.lab_mend.proofs.TrialLemmas.{AreBits, bits_once, bits_other, bits_same}
use Rattle.lab_mend.proofs.FoundLemmas.{programmed_none, programmed_yes, programmed_no}

-- ---- one page more

pub met_page : (size : ℕ) (sound : List Page) (kept : List ℕ) (met : Met) (p : Page) → is_sound p ≡ true → SoundPagesComeTo size (sound ++ p ∷ []) kept met → SoundPagesComeTo size (sound ++ filter is_sound (p ∷ [])) kept met
met_page size sound kept met p is h = subst (λ b. SoundPagesComeTo size (sound ++ cond b (p ∷ []) []) kept met) (sym is) h

pub met_none : (size : ℕ) (sound : List Page) (kept : List ℕ) (met : Met) → SoundPagesComeTo size sound kept met → SoundPagesComeTo size (sound ++ []) kept met
met_none size sound kept met h = subst (λ ps. SoundPagesComeTo size ps kept met) (sym (append-nil sound)) h

pub met_other : (size : ℕ) (sound : List Page) (kept : List ℕ) (met : Met) (p : Page) → is_sound p ≡ false → SoundPagesComeTo size sound kept met → SoundPagesComeTo size (sound ++ filter is_sound (p ∷ [])) kept met
met_other size sound kept met p is h = subst (λ b. SoundPagesComeTo size (sound ++ cond b (p ∷ []) []) kept met) (sym is) (met_none size sound kept met h)

-- ---- the pages with so many bits turned

pub none_turned : (p : Page) (bits : List ℕ) (n : ℕ) → n ≡ 0 → with_turned p bits n ≡ p ∷ []
unfolding with_turned
none_turned p bits n e = ap (with_turned p bits) e ∙ by bits
  where
    by : (xs : List ℕ) → with_turned p xs 0 ≡ p ∷ []
    by [] = refl
    by (x ∷ xs) = refl

pub no_bits : (p : Page) (bits : List ℕ) (n : ℕ) → length bits ≡ 0 → 0 < n → with_turned p bits n ≡ []
unfolding with_turned
no_bits p [] zero e l = absurd (omega arith)
no_bits p [] (suc n) e l = refl
no_bits p (k ∷ ks) n e l = absurd (omega arith)

-- with the first bit turned and without it
pub both_turned : (size : ℕ) (bytes : List ℕ) (k : ℕ) (ks bits : List ℕ) (n m : ℕ) → size ≤ length bytes → bits ≡ k ∷ ks → n ≡ m + 1
    → filter is_sound (with_turned (page_from_bytes size bytes) bits n) ≡ filter is_sound (with_turned (page_from_bytes size (turned_bytes bytes k)) ks m) ++ filter is_sound (with_turned (page_from_bytes size bytes) ks n)
unfolding with_turned
both_turned size bytes k ks bits n m room are e =
    let p : Page = page_from_bytes size bytes in
    let one : n ≡ suc m = omega arith in
    ap (λ xs. filter is_sound (with_turned p xs n)) are
    ∙ (ap (λ j. filter is_sound (with_turned p (k ∷ ks) j)) one
    ∙ (filter-append is_sound (with_turned (with_bit_turned p k) ks m) (with_turned p ks (suc m))
    ∙ (ap (λ q. filter is_sound (with_turned q ks m) ++ filter is_sound (with_turned p ks (suc m))) (turned_page size bytes k room)
    ∙ ap (λ j. filter is_sound (with_turned (page_from_bytes size (turned_bytes bytes k)) ks m) ++ filter is_sound (with_turned p ks j)) (sym one))))

-- the others are bits of the page with the first turned
pub rest_within : (bytes after : List ℕ) (k : ℕ) (ks bits : List ℕ) → bits ≡ k ∷ ks → length after ≡ length bytes → All (λ j. j < bits_of bytes) bits → All (λ j. j < bits_of after) ks
rest_within bytes after k ks bits are size h =
    subst (λ n. All (λ j. j < 8 * n) ks) (sym size) (All-tail (λ j. j < bits_of bytes) k ks (subst (All (λ j. j < bits_of bytes)) are h))

pub first_within : (bytes : List ℕ) (k : ℕ) (ks bits : List ℕ) → bits ≡ k ∷ ks → All (λ j. j < bits_of bytes) bits → k < bits_of bytes
first_within bytes k ks bits are h = All-head (λ j. j < bits_of bytes) k ks (subst (All (λ j. j < bits_of bytes)) are h)

pub met_both : (size : ℕ) (sound first second all : List Page) (kept : List ℕ) (met : Met) → all ≡ first ++ second → SoundPagesComeTo size ((sound ++ first) ++ second) kept met → SoundPagesComeTo size (sound ++ all) kept met
met_both size sound first second all kept met e h = subst (λ ps. SoundPagesComeTo size ps kept met) (append_assoc sound first second ∙ ap (λ ps. sound ++ ps) (sym e)) h

-- ---- the least number first

pub turns_first : (p : Page) (bits : List ℕ) (d : ℕ) → d ≡ length bits → by_turns p bits (range_with_len 1 (length bits)) ≡ by_turns p bits (range_with_len 1 (d + 1 - 1))
turns_first p bits d e = ap (λ n. by_turns p bits (range_with_len 1 n)) (omega arith)

-- what comes of so many, and of more
pub turns_step : (p : Page) (bits : List ℕ) (n d : ℕ) → n ≤ d → by_turns p bits (range_with_len n (d + 1 - n)) ≡ by_found p n (length bits) (filter is_sound (with_turned p bits n)) (by_turns p bits (range_with_len (n + 1) (d + 1 - (n + 1))))
unfolding by_turns
turns_step p bits n d l =
    let more : d + 1 - n ≡ suc (d + 1 - (n + 1)) = omega arith in
    ap (λ m. by_turns p bits (range_with_len n m)) more

pub turns_none : (p : Page) (bits : List ℕ) (n d : ℕ) → n ≤ d → filter is_sound (with_turned p bits n) ≡ [] → by_turns p bits (range_with_len n (d + 1 - n)) ≡ by_turns p bits (range_with_len (n + 1) (d + 1 - (n + 1)))
turns_none p bits n d l none = turns_step p bits n d l ∙ ap (λ ps. by_found p n (length bits) ps (by_turns p bits (range_with_len (n + 1) (d + 1 - (n + 1))))) none

pub turns_one : (p q : Page) (bits : List ℕ) (n d : ℕ) → n ≤ d → d ≡ length bits → HasFirst (filter is_sound (with_turned p bits n)) q → by_turns p bits (range_with_len n (d + 1 - n)) ≡ chosen q (Tried (Taken n d))
turns_one p q bits n d l e h =
    turns_step p bits n d l ∙ (ap (λ ps. by_found p n (length bits) ps (by_turns p bits (range_with_len (n + 1) (d + 1 - (n + 1))))) h.are
    ∙ (ap (λ b. cond b (chosen q (Tried (Taken n (length bits)))) (chosen p (Tried (Tied n (length bits))))) h.same ∙ ap (λ m. chosen q (Tried (Taken n m))) (sym e)))

pub turns_two : (p : Page) (bits : List ℕ) (n d : ℕ) → n ≤ d → d ≡ length bits → HasTwo (filter is_sound (with_turned p bits n)) → by_turns p bits (range_with_len n (d + 1 - n)) ≡ chosen p (Tried (Tied n d))
turns_two p bits n d l e h =
    turns_step p bits n d l ∙ (ap (λ ps. by_found p n (length bits) ps (by_turns p bits (range_with_len (n + 1) (d + 1 - (n + 1))))) h.are
    ∙ (ap (λ b. cond b (chosen h.its (Tried (Taken n (length bits)))) (chosen p (Tried (Tied n (length bits))))) h.apart ∙ ap (λ m. chosen p (Tried (Tied n m))) (sym e)))

pub turns_nothing : (p : Page) (bits : List ℕ) (n d : ℕ) → n ≡ d + 1 → d ≡ length bits → by_turns p bits (range_with_len n (d + 1 - n)) ≡ chosen p (Tried (Nothing d))
unfolding by_turns
turns_nothing p bits n d last e =
    let none : d + 1 - n ≡ 0 = omega arith in
    ap (λ m. by_turns p bits (range_with_len n m)) none ∙ ap (λ m. chosen p (Tried (Nothing m))) (sym e)

-- ---- the bits in which pages differ

filter_step : (f : ℕ → Bool) (n : ℕ) → filter f (range_with_len 0 (n + 1)) ≡ filter f (range_with_len 0 n) ++ cond (f n) (n ∷ []) []
filter_step f n = ap (filter f) (range_more n) ∙ filter-append f (range_with_len 0 n) (n ∷ [])

pub filter_yes : (f : ℕ → Bool) (n : ℕ) → f n ≡ true → filter f (range_with_len 0 (n + 1)) ≡ filter f (range_with_len 0 n) ++ n ∷ []
filter_yes f n e = filter_step f n ∙ ap (λ b. filter f (range_with_len 0 n) ++ cond b (n ∷ []) []) e

pub filter_no : (f : ℕ → Bool) (n : ℕ) → f n ≡ false → filter f (range_with_len 0 (n + 1)) ≡ filter f (range_with_len 0 n)
filter_no f n e = filter_step f n ∙ (ap (λ b. filter f (range_with_len 0 n) ++ cond b (n ∷ []) []) e ∙ append-nil (filter f (range_with_len 0 n)))

filter_grows : (f : ℕ → Bool) (n more : ℕ) → length (filter f (range_with_len 0 n)) ≤ length (filter f (range_with_len 0 (n + more)))
filter_grows f n zero = (let same : n + 0 ≡ n = omega arith in let size = ap (λ m. length (filter f (range_with_len 0 m))) same in omega arith)
filter_grows f n (suc more) =
    let next : n + suc more ≡ n + more + 1 = omega arith in
    let size = ap (λ m. length (filter f (range_with_len 0 m))) next in
    let step = ap length (filter_step f (n + more)) in
    let rest = filter_grows f n more in
    omega (arith, length-append (filter f (range_with_len 0 (n + more))) (cond (f (n + more)) ((n + more) ∷ []) []))

pub filter_many : (f : ℕ → Bool) (n all : ℕ) → n < all → f n ≡ true → length (filter f (range_with_len 0 n)) ≡ 16 → 16 < length (filter f (range_with_len 0 all))
filter_many f n all l e full =
    let whole : n + 1 + (all - (n + 1)) ≡ all = omega arith in
    let size = ap (λ m. length (filter f (range_with_len 0 m))) whole in
    let here = ap length (filter_yes f n e) in
    let grows = filter_grows f (n + 1) (all - (n + 1)) in
    omega (arith, length-append (filter f (range_with_len 0 n)) (n ∷ []))

pub bit_no : (p : Page) (ps : List Page) (bits : List ℕ) (k : ℕ) → list_any (λ q. differ_in p q k) ps ≡ false → bits ≡ with_bit p ps bits k
bit_no p ps bits k e = sym (ap (λ b. cond b (bits ++ k ∷ []) bits) e)

pub bit_yes : (p : Page) (ps : List Page) (bits : List ℕ) (k : ℕ) → list_any (λ q. differ_in p q k) ps ≡ true → bits ++ k ∷ [] ≡ with_bit p ps bits k
bit_yes p ps bits k e = sym (ap (λ b. cond b (bits ++ k ∷ []) bits) e)

pub bits_step : (p : Page) (ps : List Page) (old new : List ℕ) (n : ℕ) → old ≡ filter (λ k. list_any (λ q. differ_in p q k) ps) (range_with_len 0 n) → new ≡ with_bit p ps old n → new ≡ filter (λ k. list_any (λ q. differ_in p q k) ps) (range_with_len 0 (n + 1))
bits_step p ps old new n before is =
    let f : ℕ → Bool = λ k. list_any (λ q. differ_in p q k) ps in
    is ∙ (ap (λ xs. with_bit p ps xs n) before ∙ (by (f n) ∙ sym (filter_step f n)))
  where
    by : (b : Bool) → cond b (filter (λ k. list_any (λ q. differ_in p q k) ps) (range_with_len 0 n) ++ n ∷ []) (filter (λ k. list_any (λ q. differ_in p q k) ps) (range_with_len 0 n))
        ≡ filter (λ k. list_any (λ q. differ_in p q k) ps) (range_with_len 0 n) ++ cond b (n ∷ []) []
    by true = refl
    by false = sym (append-nil (filter (λ k. list_any (λ q. differ_in p q k) ps) (range_with_len 0 n)))

-- ---- whether one of the pages at these places differs from the first of them

page_there : (g : Geometry) (bytes places : List ℕ) (n : ℕ) (d : Page) → n < length places → get_or (pages_at g bytes places) n d ≡ page_of_reading g bytes (get_or places n 0)
page_there g bytes places n d l = get_or-map (page_of_reading g bytes) places n 0 d l

pub apart_at : (g : Geometry) (bytes places : List ℕ) (n k : ℕ) → n < length places → page_bit (page_of_reading g bytes (get_or places n 0)) k ≢ page_bit (first_at g bytes places) k
    → true ≡ list_any (λ q. differ_in (first_at g bytes places) q k) (pages_at g bytes places)
apart_at g bytes places n k l ne =
    let p : Page = first_at g bytes places in
    let here : differ_in p (get_or (pages_at g bytes places) n p) k ≡ true = ap (λ q. differ_in p q k) (page_there g bytes places n p l) ∙ bits_other p (page_of_reading g bytes (get_or places n 0)) k ne in
    sym (list_any_at (λ q. differ_in p q k) (pages_at g bytes places) n p (omega (arith, length-map places (page_of_reading g bytes))) here)

pub apart_more : (g : Geometry) (bytes places : List ℕ) (n k : ℕ) → n < length places → page_bit (page_of_reading g bytes (get_or places n 0)) k ≡ page_bit (first_at g bytes places) k
    → list_any (λ q. differ_in (first_at g bytes places) q k) (take n (pages_at g bytes places)) ≡ false → list_any (λ q. differ_in (first_at g bytes places) q k) (take (n + 1) (pages_at g bytes places)) ≡ false
apart_more g bytes places n k l same before =
    let p : Page = first_at g bytes places in
    let here : differ_in p (get_or (pages_at g bytes places) n p) k ≡ false = ap (λ q. differ_in p q k) (page_there g bytes places n p l) ∙ bits_same p (page_of_reading g bytes (get_or places n 0)) k same in
    list_any_more (λ q. differ_in p q k) (pages_at g bytes places) n p (omega (arith, length-map places (page_of_reading g bytes)))
    ∙ (ap (λ b. b || differ_in p (get_or (pages_at g bytes places) n p) k) before ∙ here)

pub apart_none : (g : Geometry) (bytes places : List ℕ) (n k : ℕ) → n ≡ length places → list_any (λ q. differ_in (first_at g bytes places) q k) (take n (pages_at g bytes places)) ≡ false
    → false ≡ list_any (λ q. differ_in (first_at g bytes places) q k) (pages_at g bytes places)
apart_none g bytes places n k all e =
    let whole : take n (pages_at g bytes places) ≡ pages_at g bytes places = take_all n (pages_at g bytes places) (omega (arith, length-map places (page_of_reading g bytes))) in
    sym (ap (list_any (λ q. differ_in (first_at g bytes places) q k)) (sym whole) ∙ e)

-- ---- the places of the pages that are not erased

pub place_yes : (p : Page) (places : List ℕ) (i : ℕ) → is_programmed p ≡ true → places ++ i ∷ [] ≡ with_place p places i
place_yes p places i e = sym (ap (λ b. cond b (places ++ i ∷ []) places) e)

pub place_no : (p : Page) (places : List ℕ) (i : ℕ) → is_programmed p ≡ false → places ≡ with_place p places i
place_no p places i e = sym (ap (λ b. cond b (places ++ i ∷ []) places) e)

-- what is so of the places with one more
pub record ArePlaces (g : Geometry) (bytes : List ℕ) (n : ℕ) (places : List ℕ) : Type 0 where
  pub are : pages_at g bytes places ≡ programmed_below g bytes n
  pub within : All (λ i. i * page_bytes g + page_bytes g ≤ length bytes) places
  pub few : length places ≤ n

place_by : (g : Geometry) (bytes old : List ℕ) (n : ℕ) → ArePlaces g bytes n old → n * page_bytes g + page_bytes g ≤ length bytes → (b : Bool) → is_programmed (page_of_reading g bytes n) ≡ b → ArePlaces g bytes (n + 1) (cond b (old ++ n ∷ []) old)
place_by g bytes old n h within true is = record {
  are = map-append (page_of_reading g bytes) old (n ∷ []) ∙ (ap (λ ps. ps ++ page_of_reading g bytes n ∷ []) h.are ∙ sym (programmed_yes g bytes n is));
  within = All-push (λ i. i * page_bytes g + page_bytes g ≤ length bytes) old n h.within within;
  few = (let few = h.few in omega (arith, length-append old (n ∷ [])));
}
place_by g bytes old n h within false is = record { are = h.are ∙ sym (programmed_no g bytes n is); within = h.within; few = (let few = h.few in omega arith) }

pub places_more : (g : Geometry) (bytes old new : List ℕ) (n : ℕ) → ArePlaces g bytes n old → n * page_bytes g + page_bytes g ≤ length bytes → new ≡ with_place (page_of_reading g bytes n) old n → ArePlaces g bytes (n + 1) new
places_more g bytes old new n h within is = subst (ArePlaces g bytes (n + 1)) (sym is) (place_by g bytes old n h within (is_programmed (page_of_reading g bytes n)) refl)

pub places_none : (g : Geometry) (bytes places : List ℕ) → places ≡ [] → ArePlaces g bytes 0 places
places_none g bytes places e = subst (ArePlaces g bytes 0) (sym e) (record { are = sym (programmed_none g bytes); within = All-nil (λ i. i * page_bytes g + page_bytes g ≤ length bytes); few = omega arith })

pub page_end : (n count size : ℕ) → n < count → n * size + size ≤ count * size
page_end n count size l = let m : suc n * size ≤ count * size = mul-le-mul_right size l in omega (arith, m)

piece_size : (bytes : List ℕ) (size i : ℕ) → i * size + size ≤ length bytes → length (piece_at bytes size i) ≡ size
piece_size bytes size i within =
    let one : i * size + size - i * size ≡ size = omega arith in
    ap (λ n. length (take n (drop (i * size) bytes))) one ∙ length-take-le size (drop (i * size) bytes) (omega (arith, length-drop (i * size) bytes))

pub page_bits : (g : Geometry) (bytes : List ℕ) (i : ℕ) → i * page_bytes g + page_bytes g ≤ length bytes → bit_count (page_of_reading g bytes i) ≡ 8 * page_bytes g
page_bits g bytes i within = count_page g.data_bytes (piece_at bytes (page_bytes g) i) ∙ ap (λ n. 8 * n) (piece_size bytes (page_bytes g) i within)

pub bits_are : (p : Page) (ps : List Page) (n : ℕ) → n ≡ bit_count p → filter (λ k. list_any (λ q. differ_in p q k) ps) (range_with_len 0 n) ≡ differing_bits p ps
unfolding differing_bits
bits_are p ps n e = ap (λ m. filter (λ k. list_any (λ q. differ_in p q k) ps) (range_with_len 0 m)) e

bits_low : (n : ℕ) (ks : List ℕ) → AreBits n ks → All (λ k. k < n) ks
bits_low n [] h = All-nil (λ k. k < n)
bits_low n (k ∷ ks) h = All-cons (λ j. j < n) k ks h.0 (bits_low n ks h.2)

pub bits_within : (p : Page) (ps : List Page) (n : ℕ) → bit_count p ≡ n → All (λ k. k < n) (differing_bits p ps)
bits_within p ps n e = subst (λ m. All (λ k. k < m) (differing_bits p ps)) e (bits_low (bit_count p) (differing_bits p ps) (bits_once p ps))

-- ---- whether pages are tried

pub tried_yes : (p : Page) (bits : List ℕ) → 0 < length bits → length bits ≤ 16 → by_trial p bits ≡ by_turns p bits (range_with_len 1 (length bits))
unfolding by_trial
tried_yes p bits some few =
    ap (λ b. cond b (by_turns p bits (range_with_len 1 (length bits))) (chosen p Unsound)) (and_from (nat_le 1 (length bits)) (nat_le (length bits) 16) (le-leb 1 (length bits) some) (le-leb (length bits) 16 few))

pub tried_none : (p : Page) (bits : List ℕ) → length bits ≡ 0 → by_trial p bits ≡ chosen p Unsound
unfolding by_trial
tried_none p bits none =
    ap (λ b. cond b (by_turns p bits (range_with_len 1 (length bits))) (chosen p Unsound)) (and_left (nat_le 1 (length bits)) (nat_le (length bits) 16) (lt-leb 1 (length bits) (omega arith)))

pub tried_many : (p : Page) (bits : List ℕ) → 16 < length bits → by_trial p bits ≡ chosen p Unsound
unfolding by_trial
tried_many p bits many =
    ap (λ b. cond b (by_turns p bits (range_with_len 1 (length bits))) (chosen p Unsound)) (and_right (nat_le 1 (length bits)) (nat_le (length bits) 16) (lt-leb (length bits) 16 many))

-- the first of the pages at these places, and all of them
pub programmed_first : (g : Geometry) (bytes places : List ℕ) (pages programmed : List Page) → 0 < length places
    → pages_at g bytes places ≡ programmed
    → by_programmed g pages programmed ≡ by_trial (first_at g bytes places) (differing_bits (first_at g bytes places) (pages_at g bytes places))
programmed_first g bytes [] pages programmed some are = absurd (omega arith)
programmed_first g bytes (x ∷ xs) pages programmed some are = ap (by_programmed g pages) (sym are)

pub no_places : (g : Geometry) (bytes places : List ℕ) → length places ≡ 0 → pages_at g bytes places ≡ []
no_places g bytes [] e = refl
no_places g bytes (x ∷ xs) e = absurd (omega arith)
