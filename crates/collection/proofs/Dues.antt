-- Which translation pages have to be written.
use Rattle.std.proofs.Common.{◌≡◌, ◌≢◌, inl, inr, ℕ, zero, suc, ◌+◌, ◌/◌, ◌<◌, ◌≤◌, ◌==◌, ◌&&◌, ◌||◌, Bool, true, false, not, List, [], ◌∷◌, ◌++◌, length, nat_lt}
use Rattle.std.proofs.Common.{get_or, set, count_by, refl, ap, sym, ◌∙◌, subst, arith, get_or-set_same, get_or-set_other}
use Rattle.std.specs.List.{range_with_len}
use Rattle.std.specs.Map.{keys_of}
use Rattle.std.proofs.lemmas.Bool.{cases_eq, eq-eqb, ne_eqb, le-ltb}
use Rattle.page_layout.specs.declared.geometry.Geometry.{Geometry}
use Rattle.page_layout.specs.declared.record.Key.{Key}
use Rattle.page_layout.specs.declared.record.Key.TheVariants.{Sector, Translation, Table}
use Rattle.page_layout.specs.Geometry.{translation_pages, entries}
use Rattle.page_layout.specs.Live.{IsKeyOf}
use Rattle.page_layout.proofs.CountLemmas.{bit, count_by-cons}
use Rattle.page_layout.proofs.GeometryLemmas.{sector_entry}
use Rattle.mapping_cache.specs.Mapping.{MappingState, per_page, moved_in, without_sector, without_page, cleaned}
use Rattle.allocation.proofs.CountLemmas.{count_moved}
use Rattle.collection.specs.State.{Ram}
use Rattle.collection.specs.Safe.{IsRam}
use Rattle.collection.specs.Settle.{SetsMapping, Cleans}
use Rattle.collection.specs.Collect.{is_translation_marked, is_due, is_owed, owed_count, due_count, marks_after, IsUpToDate, Refreshes, OwesNone}

-- ---- the moved list

-- the sectors of a page leave it
left_head : (pp t k : ℕ) (e : ℕ × ℕ) (ms : List (ℕ × ℕ)) → k ≢ t → (b : Bool) → (e.0 / pp == t) ≡ b → (c : Bool) → (e.0 / pp == k) ≡ c → moved_in pp k (without_page pp t ms) ≡ moved_in pp k ms → moved_in pp k (without_page pp t (e ∷ ms)) ≡ moved_in pp k (e ∷ ms)
left_head pp t k e ms ne true here true of_page rest =
    let a : e.0 / pp ≡ t = Rattle.std.proofs.lemmas.Bool.eqb-true (e.0 / pp) t here in
    let b : e.0 / pp ≡ k = Rattle.std.proofs.lemmas.Bool.eqb-true (e.0 / pp) k of_page in
    absurd (ne (sym b ∙ a))
left_head pp t k e ms ne true here false of_page rest = rw (here, of_page) rest
left_head pp t k e ms ne false here true of_page rest = rw (here, of_page) (ap (λ l. e ∷ l) rest)
left_head pp t k e ms ne false here false of_page rest = rw (here, of_page) rest

pub left_others : (pp t k : ℕ) (ms : List (ℕ × ℕ)) → k ≢ t → moved_in pp k (without_page pp t ms) ≡ moved_in pp k ms
left_others pp t k [] ne = refl
left_others pp t k (e ∷ ms) ne = left_head pp t k e ms ne (e.0 / pp == t) refl (e.0 / pp == k) refl (left_others pp t k ms ne)

none_head : (pp t : ℕ) (e : ℕ × ℕ) (ms : List (ℕ × ℕ)) (b : Bool) → (e.0 / pp == t) ≡ b → moved_in pp t (without_page pp t ms) ≡ [] → moved_in pp t (without_page pp t (e ∷ ms)) ≡ []
none_head pp t e ms true is rest = rw is rest
none_head pp t e ms false is rest = rw (is, is) rest

pub left_none : (pp t : ℕ) (ms : List (ℕ × ℕ)) → moved_in pp t (without_page pp t ms) ≡ []
left_none pp t [] = refl
left_none pp t (e ∷ ms) = none_head pp t e ms (e.0 / pp == t) refl (left_none pp t ms)

-- the others stay
parts_head : (pp t : ℕ) (e : ℕ × ℕ) (ms : List (ℕ × ℕ)) (b : Bool) → (e.0 / pp == t) ≡ b → length (moved_in pp t ms) + length (without_page pp t ms) ≡ length ms
    → length (moved_in pp t (e ∷ ms)) + length (without_page pp t (e ∷ ms)) ≡ length (e ∷ ms)
parts_head pp t e ms true is rest = rw is (omega arith)
parts_head pp t e ms false is rest = rw is (omega arith)

pub length_parts : (pp t : ℕ) (ms : List (ℕ × ℕ)) → length (moved_in pp t ms) + length (without_page pp t ms) ≡ length ms
length_parts pp t [] = refl
length_parts pp t (e ∷ ms) = parts_head pp t e ms (e.0 / pp == t) refl (length_parts pp t ms)

-- ---- how many have to be written

-- at most one page's turn has changed
one_more : (p q : ℕ → Bool) (t n : ℕ) → ((k : ℕ) → k ≢ t → q k ≡ p k) → t < n → count_by q (range_with_len 0 n) ≤ count_by p (range_with_len 0 n) + 1
one_more p q t n same lt = (let e = count_moved p q t 0 n same (omega arith) (omega arith) in omega (arith, e, most (q t)))
  where
    most : (b : Bool) → bit b ≤ 1
    most true = omega arith
    most false = omega arith

pub one_less : (p q : ℕ → Bool) (t n : ℕ) → ((k : ℕ) → k ≢ t → q k ≡ p k) → t < n → p t ≡ true → q t ≡ false → count_by q (range_with_len 0 n) + 1 ≤ count_by p (range_with_len 0 n)
one_less p q t n same lt was now = (let e = count_moved p q t 0 n same (omega arith) (omega arith) in let a : bit (p t) ≡ 1 = ap bit was in let b : bit (q t) ≡ 0 = ap bit now in omega (arith, e))

-- ---- a sector was copied

pub record HasFollowed (flushing : Bool) (key : Key) (row : ℕ) (r r' : Ram) : Type 0 where
  pub geometry : r'.geometry ≡ r.geometry
  pub mapping : SetsMapping key row r.mapping r'.mapping
  pub marks : r'.pin.marks ≡ marks_after flushing r.geometry key r.pin.marks

marked_other : (flushing : Bool) (g : Geometry) (n t : ℕ) (ms : List Bool) → t ≢ n / entries g → get_or (marks_after flushing g (Sector n) ms) t false ≡ get_or ms t false
marked_other true g n t ms ne = get_or-set_other ms (n / entries g) t true false ne
marked_other false g n t ms ne = refl

pub unmarked_key : (flushing : Bool) (g : Geometry) (key : Key) (ms : List Bool) → ((n : ℕ) → key ≢ Sector n) → marks_after flushing g key ms ≡ ms
unmarked_key true g (Sector n) ms not = absurd (not n refl)
unmarked_key true g (Translation t) ms not = refl
unmarked_key true g (Table u) ms not = refl
unmarked_key false g key ms not = refl

-- whether a page has to be written is a question of how many of its sectors are moved, and of its mark
asked : (ask : ℕ → Bool) (flushing : Bool) (pp t : ℕ) (moved moved' : List (ℕ × ℕ)) (mark mark' : Bool) → moved_in pp t moved' ≡ moved_in pp t moved → mark' ≡ mark
    → (ask (length (moved_in pp t moved')) || (flushing && mark')) ≡ (ask (length (moved_in pp t moved)) || (flushing && mark))
asked ask flushing pp t moved moved' mark mark' m k = rw (m, k) refl

module _ (flushing : Bool) (n row : ℕ) (r r' : Ram) (s : IsRam r) (f : HasFollowed flushing (Sector n) row r r') (k : ℕ) (ne : k ≢ n / entries r.geometry) where
  other_asked : (ask : ℕ → Bool) → (ask (length (moved_in (per_page r'.mapping) k r'.mapping.moved)) || (flushing && is_translation_marked r' k)) ≡ (ask (length (moved_in (per_page r.mapping) k r.mapping.moved)) || (flushing && is_translation_marked r k))
  other_asked ask =
      let pp_is : per_page r.mapping ≡ entries r.geometry = ap entries s.mapping_of in
      let pp'_is : per_page r'.mapping ≡ per_page r.mapping = ap entries f.mapping.limits.geometry in
      let others : moved_in (per_page r.mapping) k r'.mapping.moved ≡ moved_in (per_page r.mapping) k r.mapping.moved = f.mapping.moved_others k (λ e. ne (e ∙ ap (λ p. n / p) pp_is)) in
      let mark : is_translation_marked r' k ≡ is_translation_marked r k = ap (λ l. get_or l k false) f.marks ∙ marked_other flushing r.geometry n k r.pin.marks ne in
      ap (λ p. ask (length (moved_in p k r'.mapping.moved)) || (flushing && is_translation_marked r' k)) pp'_is ∙ asked ask flushing (per_page r.mapping) k r.mapping.moved r'.mapping.moved (is_translation_marked r k) (is_translation_marked r' k) others mark

  -- a page of a sector that was copied has no other translation page written
  pub other_due : is_due flushing r' k ≡ is_due flushing r k
  other_due = ap (λ share. nat_lt share (length (moved_in (per_page r'.mapping) k r'.mapping.moved)) || (flushing && is_translation_marked r' k)) f.mapping.limits.share ∙ other_asked (nat_lt r.mapping.share)

  pub other_owed : is_owed flushing r' k ≡ is_owed flushing r k
  other_owed = other_asked (λ m. not (m == 0))

-- nor has a page of no sector
pub same_owed : (flushing : Bool) (r r' : Ram) → r'.mapping ≡ r.mapping → r'.pin.marks ≡ r.pin.marks → (k : ℕ) → is_owed flushing r' k ≡ is_owed flushing r k
same_owed flushing r r' m marks k = rw (m, marks) refl

pub same_due : (flushing : Bool) (r r' : Ram) → r'.mapping ≡ r.mapping → r'.pin.marks ≡ r.pin.marks → (k : ℕ) → is_due flushing r' k ≡ is_due flushing r k
same_due flushing r r' m marks k = rw (m, marks) refl

pub copied_due : (flushing : Bool) (key : Key) (row : ℕ) (r r' : Ram) → IsRam r → IsKeyOf r.geometry key → HasFollowed flushing key row r r' → due_count flushing r' ≤ due_count flushing r + 1
copied_due flushing (Sector n) row r r' s lt f =
    let e = one_more (is_due flushing r) (is_due flushing r') (n / entries r.geometry) (translation_pages r.geometry) (other_due flushing n row r r' s f) (sector_entry r.geometry n lt) in
    rw f.geometry e
copied_due flushing (Translation t) row r r' s lt f =
    let e : due_count flushing r' ≡ due_count flushing r = (let m : r'.pin.marks ≡ r.pin.marks = f.marks ∙ unmarked_key flushing r.geometry (Translation t) r.pin.marks (λ n x. (let no : ⊥ = cc in no)) in rw (f.geometry, f.mapping, m) refl) in
    omega (arith, e)
copied_due flushing (Table u) row r r' s lt f =
    let e : due_count flushing r' ≡ due_count flushing r = (let m : r'.pin.marks ≡ r.pin.marks = f.marks ∙ unmarked_key flushing r.geometry (Table u) r.pin.marks (λ n x. (let no : ⊥ = cc in no)) in rw (f.geometry, f.mapping, m) refl) in
    omega (arith, e)

pub copied_refreshes : (key : Key) (row : ℕ) (r r' : Ram) → IsRam r → IsKeyOf r.geometry key → HasFollowed true key row r r' → Refreshes r r'
copied_refreshes (Sector n) row r r' s lt f = record {
  each = λ t within fresh unmarked k of_page. elim (cases_eq t (n / entries r.geometry)) [
    | inl here ↦
        let did : get_or r'.pin.marks t false ≡ true = ap (get_or r'.pin.marks t) refl ∙
        (ap (λ l. get_or l t false) f.marks
        ∙ (ap (λ i. get_or (set r.pin.marks (n / entries r.geometry) true) i false) here
        ∙ get_or-set_same r.pin.marks (n / entries r.geometry) true false (let w = sector_entry r.geometry n lt in omega (arith, s.marks))))
        in
        let no : ⊥ = cc in absurd no
    | inr ne ↦
        let pp : per_page r'.mapping ≡ entries r.geometry = ap entries f.mapping.limits.geometry ∙ ap entries s.mapping_of in
        let was_unmarked : is_translation_marked r t ≡ false = sym (ap (λ l. get_or l t false) f.marks ∙ marked_other true r.geometry n t r.pin.marks ne) ∙ unmarked in
        let apart : k ≢ n = λ e. ne (sym of_page ∙ (ap (λ p. k / p) pp ∙ ap (λ j. j / entries r.geometry) e)) in
        f.mapping.pending_others k apart ∙ fresh was_unmarked k (ap (λ p. k / p) (ap entries (sym f.mapping.limits.geometry)) ∙ of_page)
  ];
}
copied_refreshes (Translation t) row r r' s lt f = record { each = λ k within fresh unmarked n of_page. (let x = fresh (sym (ap (λ l. get_or l k false) f.marks) ∙ unmarked) n in rw f.mapping (x (ap (λ m. n / per_page m) (sym f.mapping) ∙ of_page))) }
copied_refreshes (Table u) row r r' s lt f = record { each = λ k within fresh unmarked n of_page. (let x = fresh (sym (ap (λ l. get_or l k false) f.marks) ∙ unmarked) n in rw f.mapping (x (ap (λ m. n / per_page m) (sym f.mapping) ∙ of_page))) }

-- ---- a translation page was written

pub record HasLeft (t : ℕ) (r r' : Ram) : Type 0 where
  pub geometry : r'.geometry ≡ r.geometry
  pub mapping : r'.mapping ≡ cleaned r.mapping t
  pub marks : r'.pin.marks ≡ set r.pin.marks t false

module _ (t : ℕ) (r r' : Ram) (s : IsRam r) (lt : t < translation_pages r.geometry) (f : HasLeft t r r') where
  mark_there : (k : ℕ) → k ≢ t → get_or r'.pin.marks k false ≡ get_or r.pin.marks k false
  mark_there k ne = ap (λ l. get_or l k false) f.marks ∙ get_or-set_other r.pin.marks t k false false ne

  mark_here : get_or r'.pin.marks t false ≡ false
  mark_here = ap (λ l. get_or l t false) f.marks ∙ get_or-set_same r.pin.marks t false false (omega (arith, s.marks))

  module _ (flushing : Bool) (ask : ℕ → Bool) (asks_some : ask 0 ≡ false) where
    abbrev asks : Ram → ℕ → Bool
    asks q k = ask (length (moved_in (per_page q.mapping) k q.mapping.moved)) || (flushing && is_translation_marked q k)

    written_asked : asks r t ≡ true → count_by (asks r') (range_with_len 0 (translation_pages r'.geometry)) + 1 ≤ count_by (asks r) (range_with_len 0 (translation_pages r.geometry))
    written_asked was =
        let same : (k : ℕ) → k ≢ t → asks r' k ≡ asks r k = λ k ne.
        ap (λ (m : MappingState). ask (length (moved_in (per_page m) k m.moved)) || (flushing && is_translation_marked r' k)) f.mapping
        ∙ asked ask flushing (per_page r.mapping) k r.mapping.moved (without_page (per_page r.mapping) t r.mapping.moved) (is_translation_marked r k)
        (is_translation_marked r' k) (left_others (per_page r.mapping) t k r.mapping.moved ne) (mark_there k ne) in
        let now : asks r' t ≡ false =
        ap (λ (m : MappingState). ask (length (moved_in (per_page m) t m.moved)) || (flushing && is_translation_marked r' t)) f.mapping
        ∙ (ap (λ l. ask (length l) || (flushing && is_translation_marked r' t)) (left_none (per_page r.mapping) t r.mapping.moved)
        ∙ none flushing (is_translation_marked r' t) mark_here) in
        let e = one_less (asks r) (asks r') t (translation_pages r.geometry) same lt was now in
        rw f.geometry e
      where
        none : (b m : Bool) → m ≡ false → (ask 0 || (b && m)) ≡ false
        none true m is = rw asks_some is
        none false m is = rw asks_some refl

  pub written_due : (flushing : Bool) → is_due flushing r t ≡ true → due_count flushing r' + 1 ≤ due_count flushing r
  written_due flushing was =
      let less = written_asked flushing (nat_lt r.mapping.share) (le-ltb _ _ (omega arith)) was in
      let same : r'.mapping.share ≡ r.mapping.share = ap (λ m. m.share) f.mapping in
      (let P : ℕ → Type 0 = λ share. count_by (λ k. nat_lt share (length (moved_in (per_page r'.mapping) k r'.mapping.moved)) || (flushing && is_translation_marked r' k)) (range_with_len 0 (translation_pages r'.geometry)) + 1 ≤ due_count flushing r in subst P (sym same) less)

  pub written_owed : (flushing : Bool) → is_owed flushing r t ≡ true → owed_count flushing r' + 1 ≤ owed_count flushing r
  written_owed flushing was = written_asked flushing (λ m. not (m == 0)) refl was

  pub written_refreshes : Cleans (per_page r.mapping) t r.mapping r'.mapping → Refreshes r r'
  written_refreshes c = record {
    each = λ k within fresh unmarked n of_page.
        let pp : per_page r'.mapping ≡ per_page r.mapping = ap per_page f.mapping in
        let at : n / per_page r.mapping ≡ k = ap (λ p. n / p) (sym pp) ∙ of_page in
        elim (cases_eq k t) [
          | inl same ↦ c.clean n (at ∙ same)
          | inr ne ↦ c.others n (λ e. ne (sym at ∙ e)) ∙ fresh (sym (mark_there k ne) ∙ unmarked) n at
        ];
  }

-- ---- a translation page was written back, and its mark stays

pub record HasCleaned (t : ℕ) (r r' : Ram) : Type 0 where
  pub geometry : r'.geometry ≡ r.geometry
  pub mapping : r'.mapping ≡ cleaned r.mapping t
  pub marks : r'.pin.marks ≡ r.pin.marks

module _ (t : ℕ) (r r' : Ram) (f : HasCleaned t r r') where
  stays_marked : (k : ℕ) → is_translation_marked r' k ≡ is_translation_marked r k
  stays_marked k = ap (λ l. get_or l k false) f.marks

  stays_asked : (flushing : Bool) (ask : ℕ → Bool) (k : ℕ) → k ≢ t → (ask (length (moved_in (per_page r'.mapping) k r'.mapping.moved)) || (flushing && is_translation_marked r' k))
      ≡ (ask (length (moved_in (per_page r.mapping) k r.mapping.moved)) || (flushing && is_translation_marked r k))
  stays_asked flushing ask k ne = ap (λ (m : MappingState). ask (length (moved_in (per_page m) k m.moved)) || (flushing && is_translation_marked r' k)) f.mapping
      ∙ asked ask flushing (per_page r.mapping) k r.mapping.moved (without_page (per_page r.mapping) t r.mapping.moved) (is_translation_marked r k)
      (is_translation_marked r' k) (left_others (per_page r.mapping) t k r.mapping.moved ne) (stays_marked k)

  pub cleaned_due : (flushing : Bool) → t < translation_pages r.geometry → due_count flushing r' ≤ due_count flushing r + 1
  cleaned_due flushing lt =
      let same : (k : ℕ) → k ≢ t → is_due flushing r' k ≡ is_due flushing r k = λ k ne.
      ap (λ share. nat_lt share (length (moved_in (per_page r'.mapping) k r'.mapping.moved)) || (flushing && is_translation_marked r' k)) (ap (λ (m : MappingState). m.share) f.mapping)
      ∙ stays_asked flushing (nat_lt r.mapping.share) k ne in
      let e = one_more (is_due flushing r) (is_due flushing r') t (translation_pages r.geometry) same lt in
      rw f.geometry e

  -- a page that is owed then was owed before
  pub cleaned_owed : (flushing : Bool) (k : ℕ) → is_owed flushing r' k ≡ true → is_owed flushing r k ≡ true
  cleaned_owed flushing k owed = elim (cases_eq k t) [
    | inl here ↦
        let none : moved_in (per_page r'.mapping) k r'.mapping.moved ≡ [] = ap (λ (m : MappingState). moved_in (per_page m) k m.moved) f.mapping
        ∙ (ap (λ j. moved_in (per_page r.mapping) j (without_page (per_page r.mapping) t r.mapping.moved)) here ∙ left_none (per_page r.mapping) t r.mapping.moved) in
        let only : (flushing && is_translation_marked r' k) ≡ true = sym (ap (λ l. not (length l == 0) || (flushing && is_translation_marked r' k)) none) ∙ owed in
        by_mark (not (length (moved_in (per_page r.mapping) k r.mapping.moved) == 0)) (flushing && is_translation_marked r k) (ap (λ b. flushing && b) (sym (stays_marked k)) ∙ only)
    | inr ne ↦ sym (stays_asked flushing (λ m. not (m == 0)) k ne) ∙ owed
  ]
    where
      by_mark : (a b : Bool) → b ≡ true → (a || b) ≡ true
      by_mark true b is = refl
      by_mark false b is = is

  pub cleaned_refreshes : Cleans (per_page r.mapping) t r.mapping r'.mapping → Refreshes r r'
  cleaned_refreshes c = record {
    each = λ k within fresh unmarked n of_page.
        let pp : per_page r'.mapping ≡ per_page r.mapping = ap per_page f.mapping in
        let at : n / per_page r.mapping ≡ k = ap (λ p. n / p) (sym pp) ∙ of_page in
        elim (cases_eq k t) [
          | inl same ↦ c.clean n (at ∙ same)
          | inr ne ↦ c.others n (λ e. ne (sym at ∙ e)) ∙ fresh (sym (stays_marked k) ∙ unmarked) n at
        ];
  }

-- ---- none has to be written any more

pub erased_refreshes : (r r' : Ram) → OwesNone true r → r'.geometry ≡ r.geometry → r'.mapping ≡ r.mapping → Refreshes r r'
erased_refreshes r r' none g m = record { each = λ t within fresh unmarked. (let P : MappingState → Type 0 = λ x. IsUpToDate x t in subst P (sym m) (fresh (none.unmarked refl t within))) }

-- ---- how many sectors are moved

pub some_positive : (n : ℕ) → not (n == 0) ≡ true → 0 < n
some_positive zero e = (let no : ⊥ = cc in absurd no)
some_positive (suc n) e = omega arith

moved_count_head : (pp t : ℕ) (e : ℕ × ℕ) (ms : List (ℕ × ℕ)) (b : Bool) → (e.0 / pp == t) ≡ b → length (moved_in pp t (e ∷ ms)) ≡ bit b + length (moved_in pp t ms)
moved_count_head pp t e ms true is = rw is (omega arith)
moved_count_head pp t e ms false is = rw is (omega arith)

pub moved_count : (pp t : ℕ) (ms : List (ℕ × ℕ)) → length (moved_in pp t ms) ≡ count_by (λ n. n / pp == t) (keys_of ms)
moved_count pp t [] = refl
moved_count pp t (e ∷ ms) = omega (arith, moved_count_head pp t e ms (e.0 / pp == t) refl, moved_count pp t ms, count_by-cons (λ n. n / pp == t) e.0 (keys_of ms))

pub length_keys : (ms : List (ℕ × ℕ)) → length (keys_of ms) ≡ length ms
length_keys [] = refl
length_keys (e ∷ ms) = omega (arith, length_keys ms)
