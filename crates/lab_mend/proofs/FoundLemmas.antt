-- What is found among the pages of a row while one is chosen.
use Rattle.std.proofs.Common.{◌≡◌, ℕ, ◌+◌, ◌<◌, ◌≤◌, Bool, true, false, cond, List, [], ◌∷◌, ◌++◌, length, get_or, map, replicate, refl, sym, ap, ◌∙◌, subst, arith, append-nil}
use Rattle.std.specs.Prelude.{nat_le, ◌&&◌}
use Rattle.std.specs.List.{range_with_len, filter, list_all}
use Rattle.std.specs.Str.{bytes_eq}
use Rattle.std.proofs.lemmas.Bool.{and_from, and_left, and_right, lt-leb, le-leb}
use Rattle.std.proofs.lemmas.List.{replicate-append-replicate}
use Rattle.std.proofs.lemmas.List.Folds.{list_all-append}
use Rattle.std.proofs.lemmas.List.FromFn.{length-map-range_with_len, get_or-map-range_with_len, filter_of_map_range_with_len_more}
use Rattle.std.proofs.lemmas.Slice.Eq.{bytes_eq-Decides}
use Rattle.page_layout.specs.declared.geometry.Geometry.{Geometry}
use Rattle.page_layout.specs.Geometry.{page_bytes}
use Rattle.page_layout.specs.Page.{Page}
use Rattle.page_layout.specs.Raw.{bytes_of_page}
use Rattle.page_layout.specs.Block.{is_programmed}
use Rattle.lab_dump.specs.PageBytes.{page_from_bytes, is_sound}
use Rattle.lab_dump.proofs.PageLemmas.{bytes_again}
use Rattle.lab_mend.specs.declared.choice.Origin.TheVariants.{Sound, Conflict, Majority, Erased}
use Rattle.lab_mend.specs.Pages.{piece_at, page_of_reading, pages_in}
use Rattle.lab_mend.specs.Majority.{majority}
use Rattle.lab_mend.specs.Choice.{is_same, zero_page, chosen, by_programmed, by_majority, by_sound, choice}
use Rattle.lab_mend.specs.Found.{sound_below, programmed_below, HasOne, HasTwo, WritesChoice}

-- ---- the pages of a row

pub length-pages_in : (g : Geometry) (bytes : List ℕ) (count : ℕ) → length (pages_in g bytes count) ≡ count
unfolding pages_in
length-pages_in g bytes count = length-map-range_with_len (page_of_reading g bytes) 0 count

pub bytes_of_page_in : (g : Geometry) (bytes : List ℕ) (i : ℕ) → bytes_of_page (page_of_reading g bytes i) ≡ piece_at bytes (page_bytes g) i
bytes_of_page_in g bytes i = bytes_again g.data_bytes (piece_at bytes (page_bytes g) i)

pub same_pieces : (g : Geometry) (bytes : List ℕ) (i j : ℕ) → is_same (page_of_reading g bytes i) (page_of_reading g bytes j) ≡ bytes_eq (piece_at bytes (page_bytes g) i) (piece_at bytes (page_bytes g) j)
same_pieces g bytes i j = ap (λ xs. bytes_eq xs (bytes_of_page (page_of_reading g bytes j))) (bytes_of_page_in g bytes i) ∙ ap (bytes_eq (piece_at bytes (page_bytes g) i)) (bytes_of_page_in g bytes j)

-- the same bytes are the same page
pub as_first : (g : Geometry) (bytes : List ℕ) (i : ℕ) → bytes_eq (piece_at bytes (page_bytes g) 0) (piece_at bytes (page_bytes g) i) ≡ true → is_sound (page_of_reading g bytes 0) ≡ is_sound (page_of_reading g bytes i)
as_first g bytes i e = ap (λ xs. is_sound (page_from_bytes g.data_bytes xs)) ((bytes_eq-Decides (piece_at bytes (page_bytes g) 0) (piece_at bytes (page_bytes g) i)).0 e)

-- ---- those that pass a test

kept_yes : (f : Page → Bool) (g : Geometry) (bytes : List ℕ) (i : ℕ) → f (page_of_reading g bytes i) ≡ true → filter f (pages_in g bytes (i + 1)) ≡ filter f (pages_in g bytes i) ++ page_of_reading g bytes i ∷ []
unfolding pages_in
kept_yes f g bytes i e =
    filter_of_map_range_with_len_more f (page_of_reading g bytes) 0 i i (omega arith)
    ∙ ap (λ b. filter f (map (page_of_reading g bytes) (range_with_len 0 i)) ++ cond b (page_of_reading g bytes i ∷ []) []) e

kept_no : (f : Page → Bool) (g : Geometry) (bytes : List ℕ) (i : ℕ) → f (page_of_reading g bytes i) ≡ false → filter f (pages_in g bytes (i + 1)) ≡ filter f (pages_in g bytes i)
unfolding pages_in
kept_no f g bytes i e =
    filter_of_map_range_with_len_more f (page_of_reading g bytes) 0 i i (omega arith)
    ∙ (ap (λ b. filter f (map (page_of_reading g bytes) (range_with_len 0 i)) ++ cond b (page_of_reading g bytes i ∷ []) []) e ∙ append-nil (filter f (map (page_of_reading g bytes) (range_with_len 0 i))))

kept_none : (f : Page → Bool) (g : Geometry) (bytes : List ℕ) → filter f (pages_in g bytes 0) ≡ []
unfolding pages_in
kept_none f g bytes = refl

pub sound_none : (g : Geometry) (bytes : List ℕ) → sound_below g bytes 0 ≡ []
sound_none g bytes = kept_none is_sound g bytes

pub sound_yes : (g : Geometry) (bytes : List ℕ) (i : ℕ) → is_sound (page_of_reading g bytes i) ≡ true → sound_below g bytes (i + 1) ≡ sound_below g bytes i ++ page_of_reading g bytes i ∷ []
sound_yes g bytes i e = kept_yes is_sound g bytes i e

pub sound_no : (g : Geometry) (bytes : List ℕ) (i : ℕ) → is_sound (page_of_reading g bytes i) ≡ false → sound_below g bytes (i + 1) ≡ sound_below g bytes i
sound_no g bytes i e = kept_no is_sound g bytes i e

-- ---- one sound page more

pub one_first : (g : Geometry) (bytes : List ℕ) (count i : ℕ) (sound : List Page) → i < count → sound ≡ [] → HasOne g bytes count (sound ++ page_of_reading g bytes i ∷ []) i
one_first g bytes count i sound within none = record { within = within; more = []; are = ap (λ xs. xs ++ page_of_reading g bytes i ∷ []) none; same = refl }

list_all_push : (f : Page → Bool) (ps : List Page) (p : Page) → list_all f ps ≡ true → f p ≡ true → list_all f (ps ++ p ∷ []) ≡ true
list_all_push f ps p all here = list_all-append f ps (p ∷ []) ∙ and_from (list_all f ps) (list_all f (p ∷ [])) all (and_from (f p) true here refl)

pub one_more : (g : Geometry) (bytes : List ℕ) (count kept i : ℕ) (sound : List Page) → HasOne g bytes count sound kept → is_same (page_of_reading g bytes kept) (page_of_reading g bytes i) ≡ true → HasOne g bytes count (sound ++ page_of_reading g bytes i ∷ []) kept
one_more g bytes count kept i sound h e = record {
  within = h.within;
  more = h.more ++ page_of_reading g bytes i ∷ [];
  are = ap (λ xs. xs ++ page_of_reading g bytes i ∷ []) h.are;
  same = list_all_push (is_same (page_of_reading g bytes kept)) h.more (page_of_reading g bytes i) h.same e;
}

pub two_of_one : (g : Geometry) (bytes : List ℕ) (count kept i : ℕ) (sound : List Page) → HasOne g bytes count sound kept → is_same (page_of_reading g bytes kept) (page_of_reading g bytes i) ≡ false → HasTwo (sound ++ page_of_reading g bytes i ∷ [])
two_of_one g bytes count kept i sound h e =
    let p : Page = page_of_reading g bytes kept in
    let q : Page = page_of_reading g bytes i in
    record {
      its = p;
      more = h.more ++ q ∷ [];
      are = ap (λ xs. xs ++ q ∷ []) h.are;
      apart = list_all-append (is_same p) h.more (q ∷ []) ∙ and_right (list_all (is_same p) h.more) (list_all (is_same p) (q ∷ [])) (and_left (is_same p q) true e);
    }

pub two_more : (sound : List Page) (q : Page) → HasTwo sound → HasTwo (sound ++ q ∷ [])
two_more sound q h = record {
  its = h.its;
  more = h.more ++ q ∷ [];
  are = ap (λ xs. xs ++ q ∷ []) h.are;
  apart = list_all-append (is_same h.its) h.more (q ∷ []) ∙ and_left (list_all (is_same h.its) h.more) (list_all (is_same h.its) (q ∷ [])) h.apart;
}

-- ---- the pages that are not erased

pub programmed_none : (g : Geometry) (bytes : List ℕ) → programmed_below g bytes 0 ≡ []
programmed_none g bytes = kept_none is_programmed g bytes

pub programmed_no : (g : Geometry) (bytes : List ℕ) (i : ℕ) → is_programmed (page_of_reading g bytes i) ≡ false → programmed_below g bytes (i + 1) ≡ programmed_below g bytes i
programmed_no g bytes i e = kept_no is_programmed g bytes i e

pub programmed_yes : (g : Geometry) (bytes : List ℕ) (i : ℕ) → is_programmed (page_of_reading g bytes i) ≡ true → programmed_below g bytes (i + 1) ≡ programmed_below g bytes i ++ page_of_reading g bytes i ∷ []
programmed_yes g bytes i e = kept_yes is_programmed g bytes i e

-- ---- what is written

pub sound_written : (g : Geometry) (bytes out : List ℕ) (count i : ℕ) → HasOne g bytes count (sound_below g bytes count) i → out ≡ piece_at bytes (page_bytes g) i → WritesChoice (choice g (pages_in g bytes count)) Sound out
unfolding choice
sound_written g bytes out count i h e =
    let p : Page = page_of_reading g bytes i in
    let picked : by_sound g (pages_in g bytes count) (sound_below g bytes count) ≡ chosen p Sound =
    ap (by_sound g (pages_in g bytes count)) h.are ∙ ap (λ b. cond b (chosen p Sound) (chosen (zero_page g) Conflict)) h.same in
    subst (λ c. WritesChoice c Sound out) (sym picked) (record { origin_is = refl; bytes_are = e ∙ sym (bytes_of_page_in g bytes i) })

pub apart_written : (g : Geometry) (bytes out : List ℕ) (count : ℕ) → HasTwo (sound_below g bytes count) → out ≡ replicate (page_bytes g) 0 → WritesChoice (choice g (pages_in g bytes count)) Conflict out
unfolding choice
apart_written g bytes out count h e =
    let picked : by_sound g (pages_in g bytes count) (sound_below g bytes count) ≡ chosen (zero_page g) Conflict =
    ap (by_sound g (pages_in g bytes count)) h.are ∙ ap (λ b. cond b (chosen h.its Sound) (chosen (zero_page g) Conflict)) h.apart in
    subst (λ c. WritesChoice c Conflict out) (sym picked) (record { origin_is = refl; bytes_are = e ∙ sym (replicate-append-replicate g.data_bytes g.spare_bytes 0) })

pub choice_unsound : (g : Geometry) (bytes : List ℕ) (count : ℕ) → sound_below g bytes count ≡ [] → choice g (pages_in g bytes count) ≡ by_majority g (pages_in g bytes count)
unfolding choice
choice_unsound g bytes count none = ap (by_sound g (pages_in g bytes count)) none

first_page : (g : Geometry) (bytes : List ℕ) (count : ℕ) (d : Page) → 0 < count → get_or (pages_in g bytes count) 0 d ≡ page_of_reading g bytes 0
unfolding pages_in
first_page g bytes count d some = get_or-map-range_with_len (page_of_reading g bytes) 0 count 0 0 d some (omega arith)

pub erased_written : (g : Geometry) (bytes out : List ℕ) (count : ℕ) → 0 < count → programmed_below g bytes count ≡ [] → out ≡ piece_at bytes (page_bytes g) 0
    → WritesChoice (by_programmed g (pages_in g bytes count) (programmed_below g bytes count)) Erased out
erased_written g bytes out count some none e =
    subst (λ xs. WritesChoice (by_programmed g (pages_in g bytes count) xs) Erased out) (sym none)
    (record { origin_is = refl; bytes_are = e ∙ (sym (bytes_of_page_in g bytes 0) ∙ ap bytes_of_page (sym (first_page g bytes count (zero_page g) some))) })

-- whether the majority is written
pub majority_test : (g : Geometry) (bytes : List ℕ) (count : ℕ) (b : Bool) → b ≡ (nat_le 3 count && is_sound (majority g (pages_in g bytes count)))
    → by_majority g (pages_in g bytes count) ≡ cond b (chosen (majority g (pages_in g bytes count)) Majority) (by_programmed g (pages_in g bytes count) (programmed_below g bytes count))
unfolding by_majority
majority_test g bytes count b is =
    let ps : List Page = pages_in g bytes count in
    let same : (nat_le 3 (length ps) && is_sound (majority g ps)) ≡ b = ap (λ n. nat_le 3 n && is_sound (majority g ps)) (length-pages_in g bytes count) ∙ sym is in
    ap (λ t. cond t (chosen (majority g ps) Majority) (by_programmed g ps (filter is_programmed ps))) same

pub few_readings : (count : ℕ) (b : Bool) → count < 3 → false ≡ (nat_le 3 count && b)
few_readings count b l = sym (and_left (nat_le 3 count) b (lt-leb 3 count l))

pub many_readings : (count : ℕ) (b c : Bool) → 3 ≤ count → c ≡ b → c ≡ (nat_le 3 count && b)
many_readings count b c l e = e ∙ sym (ap (λ t. t && b) (le-leb 3 count l))
