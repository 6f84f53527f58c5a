-- What one row more makes of what is written and told.
use Rattle.std.proofs.Common.{◌≡◌, ◌≢◌, ◌⊎◌, inl, inr, ℕ, ◌+◌, ◌<◌, ◌≤◌, Bool, true, false, cond, eqb, List, [], ◌∷◌, ◌++◌, length, get_or, set, replicate, Option, Some, None, IfSome, refl, sym, ap, ◌∙◌, subst, arith, append-nil, add-zero, length-append}
use Rattle.std.specs.Prelude.{All, count_by, option_map, nat_le, ◌&&◌}
use Rattle.std.specs.List.{range_with_len, filter, filter_map, cons_option, list_all, Contains}
use Rattle.std.proofs.lemmas.Bool.{cases_eq, cases_lt}
use Rattle.std.proofs.lemmas.List.{get_or-set_same, get_or-set_other, length-set, length_push, get_or_push, get_or_append_left, replicate-append-replicate}
use Rattle.std.proofs.lemmas.List.Elements.{All-nil, All-push, All-weaker, All-contains, filter-append}
use Rattle.std.proofs.lemmas.List.Quantifiers.{all_pairs_push}
use Rattle.std.proofs.lemmas.List.Sums.{sum_by_push}
use Rattle.page_layout.specs.declared.geometry.Geometry.{Geometry}
use Rattle.page_layout.specs.Geometry.{row_count, page_bytes}
use Rattle.page_layout.specs.Page.{Page}
use Rattle.page_layout.specs.Raw.{bytes_of_page}
use Rattle.page_layout.specs.Block.{is_programmed}
use Rattle.lab_dump.specs.PageBytes.{is_sound}
use Rattle.lab_dump.proofs.ScanLemmas.{if_more}
use Rattle.lab_mend.specs.declared.choice.Origin.{Origin}
use Rattle.lab_mend.specs.declared.choice.Origin.TheVariants.{Sound, Conflict, Majority, Tried, Erased, Unsound}
use Rattle.lab_mend.specs.declared.trial.Trial.TheVariants.{Taken, Tied, Nothing}
use Rattle.lab_mend.specs.declared.merging.RowTally.{RowTally}
use Rattle.lab_mend.specs.declared.merging.TriedRow.{TriedRow}
use Rattle.lab_mend.specs.Majority.{majority}
use Rattle.lab_mend.specs.Trial.{differing_bits, with_turned, is_tried}
use Rattle.lab_mend.specs.Choice.{Choice, is_same, zero_page, chosen, by_found, by_turns, by_trial, by_programmed, by_majority, by_sound, choice}
use Rattle.lab_mend.specs.Found.{WritesChoice}
use
    Rattle.lab_mend.specs.Merging.{
      named,
      with_origin_counted,
      origin_place,
      is_from,
      is_turned,
      with_unsound,
      as_tried,
      tried_row,
      with_tried,
      conflicts_below,
      unsound_rows_below,
      tried_below,
      tally_below,
      piece_of,
      ShowsMerge,
      AreMergedPieces,
      AreRowsListed,
      AreTried,
      IsTallyWithin,
      MergingStands,
    }
use Rattle.lab_dump.specs.Rooms.{HasRowRoom}
use Rattle.lab_mend.proofs.MajorityLemmas.{range_more}

-- ---- the rows that are named

named_is : (rows : List ℕ) (n : ℕ) (o : Origin) → rows ++ cond (eqb (origin_place o) 1) (n ∷ []) [] ≡ named rows n o
named_is rows n Sound = append-nil rows
named_is rows n Conflict = refl
named_is rows n Majority = append-nil rows
named_is rows n (Tried (Taken m d)) = append-nil rows
named_is rows n (Tried (Tied m d)) = append-nil rows
named_is rows n (Tried (Nothing d)) = append-nil rows
named_is rows n Erased = append-nil rows
named_is rows n Unsound = append-nil rows

pub conflicts_more : (g : Geometry) (rows : ℕ → List Page) (n : ℕ) → conflicts_below g rows (n + 1) ≡ named (conflicts_below g rows n) n (choice g (rows n)).origin
unfolding conflicts_below
conflicts_more g rows n =
    ap (filter (is_from g rows Conflict)) (range_more n)
    ∙ (filter-append (is_from g rows Conflict) (range_with_len 0 n) (n ∷ []) ∙ named_is (filter (is_from g rows Conflict) (range_with_len 0 n)) n (choice g (rows n)).origin)

unsound_is : (rows : List ℕ) (n : ℕ) (o : Origin) → rows ++ cond (eqb (origin_place o) 4) (n ∷ []) [] ≡ with_unsound rows n o
unsound_is rows n Sound = append-nil rows
unsound_is rows n Conflict = append-nil rows
unsound_is rows n Majority = append-nil rows
unsound_is rows n (Tried (Taken m d)) = append-nil rows
unsound_is rows n (Tried (Tied m d)) = refl
unsound_is rows n (Tried (Nothing d)) = refl
unsound_is rows n Erased = append-nil rows
unsound_is rows n Unsound = refl

unsound_more : (g : Geometry) (rows : ℕ → List Page) (n : ℕ) → unsound_rows_below g rows (n + 1) ≡ with_unsound (unsound_rows_below g rows n) n (choice g (rows n)).origin
unfolding unsound_rows_below
unsound_more g rows n =
    ap (filter (is_from g rows Unsound)) (range_more n)
    ∙ (filter-append (is_from g rows Unsound) (range_with_len 0 n) (n ∷ []) ∙ unsound_is (filter (is_from g rows Unsound) (range_with_len 0 n)) n (choice g (rows n)).origin)

pub none_unsound : (g : Geometry) (rows : ℕ → List Page) → [] ≡ unsound_rows_below g rows 0
unfolding unsound_rows_below
none_unsound g rows = refl

-- the same, of what the code holds after it
pub unsound_next : (g : Geometry) (rows : ℕ → List Page) (n : ℕ) (pages : List Page) (o : Origin) (old new out : List ℕ) → rows n ≡ pages → WritesChoice (choice g pages) o out → old ≡ unsound_rows_below g rows n → new ≡ with_unsound old n o → new ≡ unsound_rows_below g rows (n + 1)
unsound_next g rows n pages o old new out are written before after =
    let origin : o ≡ (choice g (rows n)).origin = written.origin_is ∙ ap (λ ps. (choice g ps).origin) (sym are) in
    after ∙ (ap (λ xs. with_unsound xs n o) before ∙ (ap (with_unsound (unsound_rows_below g rows n) n) origin ∙ sym (unsound_more g rows n)))

-- ---- the rows of which pages were tried

cons_append : (o : Option TriedRow) (xs ys : List TriedRow) → cons_option o (xs ++ ys) ≡ cons_option o xs ++ ys
cons_append None xs ys = refl
cons_append (Some r) xs ys = refl

filter_push : (h : ℕ → Option TriedRow) (xs : List ℕ) (y : ℕ) → filter_map h (xs ++ y ∷ []) ≡ filter_map h xs ++ cons_option (h y) []
filter_push h [] y = refl
filter_push h (x ∷ xs) y = ap (cons_option (h x)) (filter_push h xs y) ∙ cons_append (h x) (filter_map h xs) (cons_option (h y) [])

tried_is : (rows : List TriedRow) (o : Option TriedRow) → rows ++ cons_option o [] ≡ with_tried rows o
tried_is rows None = append-nil rows
tried_is rows (Some r) = refl

tried_more : (g : Geometry) (rows : ℕ → List Page) (n : ℕ) → tried_below g rows (n + 1) ≡ with_tried (tried_below g rows n) (tried_row n (choice g (rows n)).origin)
unfolding tried_below
tried_more g rows n =
    let h : ℕ → Option TriedRow = λ row. tried_row row (choice g (rows row)).origin in
    ap (filter_map h) (range_more n) ∙ (filter_push h (range_with_len 0 n) n ∙ tried_is (filter_map h (range_with_len 0 n)) (h n))

pub none_tried : (g : Geometry) (rows : ℕ → List Page) → [] ≡ tried_below g rows 0
unfolding tried_below
none_tried g rows = refl

pub tried_next : (g : Geometry) (rows : ℕ → List Page) (n : ℕ) (pages : List Page) (o : Origin) (old new : List TriedRow) (out : List ℕ) → rows n ≡ pages → WritesChoice (choice g pages) o out → old ≡ tried_below g rows n
    → new ≡ with_tried old (tried_row n o) → new ≡ tried_below g rows (n + 1)
tried_next g rows n pages o old new out are written before after =
    let origin : o ≡ (choice g (rows n)).origin = written.origin_is ∙ ap (λ ps. (choice g ps).origin) (sym are) in
    after ∙ (ap (λ xs. with_tried xs (tried_row n o)) before ∙ (ap (λ x. with_tried (tried_below g rows n) (tried_row n x)) origin ∙ sym (tried_more g rows n)))

tried_wider : (n : ℕ) (tried : List TriedRow) → All (λ r. r.row < n) tried → All (λ r. r.row < n + 1) tried
tried_wider n tried h = All-weaker (λ (r : TriedRow). r.row < n) (λ (r : TriedRow). r.row < n + 1) (λ r l. (omega arith)) tried h

tried_listed : (n : ℕ) (tried : List TriedRow) (o : Origin) → AreTried n tried → AreTried (n + 1) (with_tried tried (tried_row n o))
tried_listed n tried Sound h = record { within = tried_wider n tried h.within; rising = h.rising }
tried_listed n tried Conflict h = record { within = tried_wider n tried h.within; rising = h.rising }
tried_listed n tried Majority h = record { within = tried_wider n tried h.within; rising = h.rising }
tried_listed n tried (Tried t) h = record {
  within = All-push (λ (r : TriedRow). r.row < n + 1) tried (as_tried n t) (tried_wider n tried h.within) (omega arith);
  rising = all_pairs_push (λ (a b : TriedRow). a.row < b.row) tried (as_tried n t) h.rising h.within;
}
tried_listed n tried Erased h = record { within = tried_wider n tried h.within; rising = h.rising }
tried_listed n tried Unsound h = record { within = tried_wider n tried h.within; rising = h.rising }

pub tried_listed_next : (n : ℕ) (old new : List TriedRow) (o : Origin) → new ≡ with_tried old (tried_row n o) → AreTried n old → AreTried (n + 1) new
tried_listed_next n old new o is h = subst (AreTried (n + 1)) (sym is) (tried_listed n old o h)

pub none_tried_listed : AreTried 0 []
none_tried_listed = record { within = All-nil (λ (r : TriedRow). r.row < 0); rising = λ i j d l k. absurd (omega arith) }

few_tried : (tried : List TriedRow) (o : Option TriedRow) → length (with_tried tried o) ≤ length tried + 1
few_tried tried None = omega arith
few_tried tried (Some r) = omega (arith, length-append tried (r ∷ []))

pub room_tried : (all n : ℕ) (tried new : List TriedRow) (o : Origin) (old_room new_room : ℕ) → HasRowRoom all n tried old_room → new ≡ with_tried tried (tried_row n o) → new_room ≡ old_room → HasRowRoom all (n + 1) new new_room
room_tried all n tried new o old_room new_room h is same = record {
  few = (let size = ap length is in let more = few_tried tried (tried_row n o) in let few = h.few in omega arith);
  room = (let room = h.room in omega arith);
}

-- ---- the counts

abbrev pub the_tally : ℕ → ℕ → ℕ → ℕ → ℕ → RowTally
the_tally s a k b c = record { sound = s; majority = a; turned = k; erased = b; unsound = c }

tally_same : (s a k b c w x v y z : ℕ) → s ≡ w → a ≡ x → k ≡ v → b ≡ y → c ≡ z → the_tally s a k b c ≡ the_tally w x v y z
tally_same s a k b c w x v y z d e i f h =
    ap (λ n. the_tally n a k b c) d ∙ (ap (λ n. the_tally w n k b c) e ∙ (ap (λ n. the_tally w x n b c) i ∙ (ap (λ n. the_tally w x v n c) f ∙ ap (the_tally w x v y) h)))

counted_is : (t : RowTally) (o : Origin) → the_tally (t.sound + cond (eqb (origin_place o) 0) 1 0) (t.majority + cond (eqb (origin_place o) 2) 1 0) (t.turned + cond (eqb (origin_place o) 5) 1 0) (t.erased + cond (eqb (origin_place o) 3) 1 0)
    (t.unsound + cond (eqb (origin_place o) 4) 1 0) ≡ with_origin_counted t o
counted_is t Sound = tally_same (t.sound + 1) (t.majority + 0) (t.turned + 0) (t.erased + 0) (t.unsound + 0) (t.sound + 1) t.majority t.turned t.erased t.unsound refl (add-zero t.majority) (add-zero t.turned) (add-zero t.erased) (add-zero t.unsound)
counted_is t Conflict = tally_same (t.sound + 0) (t.majority + 0) (t.turned + 0) (t.erased + 0) (t.unsound + 0) t.sound t.majority t.turned t.erased t.unsound (add-zero t.sound) (add-zero t.majority) (add-zero t.turned) (add-zero t.erased) (add-zero t.unsound)
counted_is t Majority = tally_same (t.sound + 0) (t.majority + 1) (t.turned + 0) (t.erased + 0) (t.unsound + 0) t.sound (t.majority + 1) t.turned t.erased t.unsound (add-zero t.sound) refl (add-zero t.turned) (add-zero t.erased) (add-zero t.unsound)
counted_is t (Tried (Taken m d)) = tally_same (t.sound + 0) (t.majority + 0) (t.turned + 1) (t.erased + 0) (t.unsound + 0) t.sound t.majority (t.turned + 1) t.erased t.unsound (add-zero t.sound) (add-zero t.majority) refl (add-zero t.erased) (add-zero t.unsound)
counted_is t (Tried (Tied m d)) = tally_same (t.sound + 0) (t.majority + 0) (t.turned + 0) (t.erased + 0) (t.unsound + 1) t.sound t.majority t.turned t.erased (t.unsound + 1) (add-zero t.sound) (add-zero t.majority) (add-zero t.turned) (add-zero t.erased) refl
counted_is t (Tried (Nothing d)) = tally_same (t.sound + 0) (t.majority + 0) (t.turned + 0) (t.erased + 0) (t.unsound + 1) t.sound t.majority t.turned t.erased (t.unsound + 1) (add-zero t.sound) (add-zero t.majority) (add-zero t.turned) (add-zero t.erased) refl
counted_is t Erased = tally_same (t.sound + 0) (t.majority + 0) (t.turned + 0) (t.erased + 1) (t.unsound + 0) t.sound t.majority t.turned (t.erased + 1) t.unsound (add-zero t.sound) (add-zero t.majority) (add-zero t.turned) refl (add-zero t.unsound)
counted_is t Unsound = tally_same (t.sound + 0) (t.majority + 0) (t.turned + 0) (t.erased + 0) (t.unsound + 1) t.sound t.majority t.turned t.erased (t.unsound + 1) (add-zero t.sound) (add-zero t.majority) (add-zero t.turned) (add-zero t.erased) refl

count_more : (p : ℕ → Bool) (n : ℕ) → count_by p (range_with_len 0 (n + 1)) ≡ count_by p (range_with_len 0 n) + cond (p n) 1 0
count_more p n = ap (count_by p) (range_more n) ∙ sum_by_push (λ x. cond (p x) 1 0) (range_with_len 0 n) n

pub tally_more : (g : Geometry) (rows : ℕ → List Page) (n : ℕ) → tally_below g rows (n + 1) ≡ with_origin_counted (tally_below g rows n) (choice g (rows n)).origin
unfolding tally_below
tally_more g rows n =
    let o : Origin = (choice g (rows n)).origin in
    let s : ℕ = count_by (is_from g rows Sound) (range_with_len 0 n) in
    let m : ℕ = count_by (is_from g rows Majority) (range_with_len 0 n) in
    let e : ℕ = count_by (is_from g rows Erased) (range_with_len 0 n) in
    let u : ℕ = count_by (is_from g rows Unsound) (range_with_len 0 n) in
    let k : ℕ = count_by (is_turned g rows) (range_with_len 0 n) in
    tally_same _ _ _ _ _ (s + cond (eqb (origin_place o) 0) 1 0) (m + cond (eqb (origin_place o) 2) 1 0) (k + cond (eqb (origin_place o) 5) 1 0) (e + cond (eqb (origin_place o) 3) 1 0) (u + cond (eqb (origin_place o) 4) 1 0)
    (count_more (is_from g rows Sound) n) (count_more (is_from g rows Majority) n) (count_more (is_turned g rows) n) (count_more (is_from g rows Erased) n) (count_more (is_from g rows Unsound) n)
    ∙ counted_is (the_tally s m k e u) o

few_more : (n : ℕ) (t : RowTally) (o : Origin) → IsTallyWithin n t → IsTallyWithin (n + 1) (with_origin_counted t o)
few_more n t Sound h = let d = h.sound in let a = h.majority in let i = h.turned in let b = h.erased in let c = h.unsound in record { sound = omega arith; majority = omega arith; turned = omega arith; erased = omega arith; unsound = omega arith }
few_more n t Conflict h = let d = h.sound in let a = h.majority in let i = h.turned in let b = h.erased in let c = h.unsound in record { sound = omega arith; majority = omega arith; turned = omega arith; erased = omega arith; unsound = omega arith }
few_more n t Majority h = let d = h.sound in let a = h.majority in let i = h.turned in let b = h.erased in let c = h.unsound in record { sound = omega arith; majority = omega arith; turned = omega arith; erased = omega arith; unsound = omega arith }
few_more n t (Tried (Taken m k)) h = let d = h.sound in let a = h.majority in let i = h.turned in let b = h.erased in let c = h.unsound in record { sound = omega arith; majority = omega arith; turned = omega arith; erased = omega arith; unsound = omega arith }
few_more n t (Tried (Tied m k)) h = let d = h.sound in let a = h.majority in let i = h.turned in let b = h.erased in let c = h.unsound in record { sound = omega arith; majority = omega arith; turned = omega arith; erased = omega arith; unsound = omega arith }
few_more n t (Tried (Nothing k)) h = let d = h.sound in let a = h.majority in let i = h.turned in let b = h.erased in let c = h.unsound in record { sound = omega arith; majority = omega arith; turned = omega arith; erased = omega arith; unsound = omega arith }
few_more n t Erased h = let d = h.sound in let a = h.majority in let i = h.turned in let b = h.erased in let c = h.unsound in record { sound = omega arith; majority = omega arith; turned = omega arith; erased = omega arith; unsound = omega arith }
few_more n t Unsound h = let d = h.sound in let a = h.majority in let i = h.turned in let b = h.erased in let c = h.unsound in record { sound = omega arith; majority = omega arith; turned = omega arith; erased = omega arith; unsound = omega arith }

-- ---- the list

wider : (n : ℕ) (rows : List ℕ) → All (λ r. r < n) rows → All (λ r. r < n + 1) rows
wider n rows h = All-weaker (λ r. r < n) (λ r. r < n + 1) (λ r l. (omega arith)) rows h

stays : (n : ℕ) (rows : List ℕ) → AreRowsListed n rows → AreRowsListed (n + 1) rows
stays n rows h = record { within = wider n rows h.within; rising = h.rising }

listed_push : (n : ℕ) (rows : List ℕ) → AreRowsListed n rows → AreRowsListed (n + 1) (rows ++ n ∷ [])
listed_push n rows h = record {
  within = All-push (λ r. r < n + 1) rows n (wider n rows h.within) (omega arith);
  rising = all_pairs_push (λ a b. a < b) rows n h.rising h.within;
}

listed_more : (n : ℕ) (rows : List ℕ) (o : Origin) → AreRowsListed n rows → AreRowsListed (n + 1) (named rows n o)
listed_more n rows Sound h = stays n rows h
listed_more n rows Conflict h = listed_push n rows h
listed_more n rows Majority h = stays n rows h
listed_more n rows (Tried t) h = stays n rows h
listed_more n rows Erased h = stays n rows h
listed_more n rows Unsound h = stays n rows h

unsound_listed_more : (n : ℕ) (rows : List ℕ) (o : Origin) → AreRowsListed n rows → AreRowsListed (n + 1) (with_unsound rows n o)
unsound_listed_more n rows Sound h = stays n rows h
unsound_listed_more n rows Conflict h = stays n rows h
unsound_listed_more n rows Majority h = stays n rows h
unsound_listed_more n rows (Tried (Taken m d)) h = stays n rows h
unsound_listed_more n rows (Tried (Tied m d)) h = listed_push n rows h
unsound_listed_more n rows (Tried (Nothing d)) h = listed_push n rows h
unsound_listed_more n rows Erased h = stays n rows h
unsound_listed_more n rows Unsound h = listed_push n rows h

pub unsound_listed_next : (n : ℕ) (old new : List ℕ) (o : Origin) → new ≡ with_unsound old n o → AreRowsListed n old → AreRowsListed (n + 1) new
unsound_listed_next n old new o is h = subst (AreRowsListed (n + 1)) (sym is) (unsound_listed_more n old o h)

pub room_named : (all n : ℕ) (rows new : List ℕ) (o : Origin) (old_room new_room : ℕ) → HasRowRoom all n rows old_room → new ≡ named rows n o → new_room ≡ old_room → HasRowRoom all (n + 1) new new_room
room_named all n rows new o old_room new_room h is same = record { few = (let size = ap length is in let more = by o in let few = h.few in omega arith); room = (let room = h.room in omega arith) }
  where
    by : (x : Origin) → length (named rows n x) ≤ length rows + 1
    by Sound = omega arith
    by Conflict = omega (arith, length-append rows (n ∷ []))
    by Majority = omega arith
    by (Tried t) = omega arith
    by Erased = omega arith
    by Unsound = omega arith

pub room_unsound : (all n : ℕ) (rows new : List ℕ) (o : Origin) (old_room new_room : ℕ) → HasRowRoom all n rows old_room → new ≡ with_unsound rows n o → new_room ≡ old_room → HasRowRoom all (n + 1) new new_room
room_unsound all n rows new o old_room new_room h is same = record { few = (let size = ap length is in let more = by o in let few = h.few in omega arith); room = (let room = h.room in omega arith) }
  where
    by : (x : Origin) → length (with_unsound rows n x) ≤ length rows + 1
    by Sound = omega arith
    by Conflict = omega arith
    by Majority = omega arith
    by (Tried (Taken m d)) = omega arith
    by (Tried (Tied m d)) = omega (arith, length-append rows (n ∷ []))
    by (Tried (Nothing d)) = omega (arith, length-append rows (n ∷ []))
    by Erased = omega arith
    by Unsound = omega (arith, length-append rows (n ∷ []))

pub room_first : (all capacity : ℕ) (rows : List ℕ) → rows ≡ [] → all ≤ capacity → HasRowRoom all 0 rows capacity
room_first all capacity rows none room = record { few = (let size = ap length none in omega arith); room = room }

pub none_listed : AreRowsListed 0 []
none_listed = record { within = All-nil (λ (r : ℕ). r < 0); rising = λ i j d l k. absurd (omega arith) }

contains_push : (xs : List ℕ) (x y : ℕ) → Contains (xs ++ x ∷ []) y → Contains xs y ⊎ (x ≡ y)
contains_push xs x y h = elim (cases_lt h.0 (length xs)) [
  | inl l ↦ inl (h.0, l, sym (get_or_append_left xs (x ∷ []) y h.0 l) ∙ h.2)
  | inr le ↦
      let last : length xs ≡ h.0 = (let l = h.1 in let size = length_push xs x in omega arith) in
      inr (sym (get_or_push xs x y h.0 last) ∙ h.2)
]

named_from : (rows : List ℕ) (n r : ℕ) (o : Origin) → Contains (named rows n o) r → Contains rows r ⊎ ((o ≡ Conflict) × (n ≡ r))
named_from rows n r Sound h = inl h
named_from rows n r Conflict h = elim (contains_push rows n r h) [ inl at ↦ inl at | inr e ↦ inr (refl, e) ]
named_from rows n r Majority h = inl h
named_from rows n r (Tried t) h = inl h
named_from rows n r Erased h = inl h
named_from rows n r Unsound h = inl h

-- ---- the pieces

own_more : (g : Geometry) (n : ℕ) (rows : List ℕ) (o : Origin) (piece : List ℕ) (ps : List (List ℕ)) → n < row_count g → AreRowsListed n rows → length piece ≡ page_bytes g → (o ≡ Conflict → piece ≡ replicate (page_bytes g) 0)
    → AreMergedPieces g n rows ps → AreMergedPieces g (n + 1) (named rows n o) (set ps n piece)
own_more g n rows o piece ps within listed size zero h =
    let inside : n < length ps = (let all = h.size in omega arith) in
    let here : get_or (set ps n piece) n [] ≡ piece = get_or-set_same ps n piece [] inside in
    record {
      size = length-set ps n piece ∙ h.size;
      sized = λ row l. elim (cases_eq row n) [
        | inl same ↦ subst (λ k. length (get_or (set ps n piece) k []) ≡ page_bytes g) (sym same) (ap length here ∙ size)
        | inr ne ↦ ap length (get_or-set_other ps n row piece [] ne) ∙ h.sized row (omega arith)
      ];
      zeros = λ row at. elim (named_from rows n row o at) [
        | inl old ↦
            let before : row < n = All-contains (λ r. r < n) rows row listed.within old in
            let ne : row ≢ n = λ e. (omega arith) in
            get_or-set_other ps n row piece [] ne ∙ h.zeros row old
        | inr new ↦ subst (λ k. get_or (set ps n piece) k [] ≡ replicate (page_bytes g) 0) new.1 (here ∙ zero new.0)
      ];
    }

if_set : (pieces : Option (List (List ℕ))) (P Q : List (List ℕ) → Type 0) (n : ℕ) (piece : List ℕ) → IfSome pieces P → ((ps : List (List ℕ)) → P ps → Q (set ps n piece)) → IfSome (option_map (λ ps. set ps n piece) pieces) Q
if_set None P Q n piece h more = tt
if_set (Some ps) P Q n piece h more = more ps h

both_set : (pieces : Option (List (List ℕ))) (P Q R : List (List ℕ) → Type 0) (n : ℕ) (piece : List ℕ) → IfSome pieces P → IfSome pieces Q → ((ps : List (List ℕ)) → P ps → Q ps → R (set ps n piece)) → IfSome (option_map (λ ps. set ps n piece) pieces) R
both_set None P Q R n piece p q more = tt
both_set (Some ps) P Q R n piece p q more = more ps p q

pub stands_more : (g : Geometry) (n : ℕ) (rows : List ℕ) (t : RowTally) (o : Origin) (old scratch : List ℕ) (pieces : Option (List (List ℕ))) → n < row_count g → MergingStands g n rows t old pieces → length scratch ≡ page_bytes g
    → (o ≡ Conflict → scratch ≡ replicate (page_bytes g) 0) → MergingStands g (n + 1) (named rows n o) (with_origin_counted t o) scratch (option_map (λ ps. set ps n scratch) pieces)
stands_more g n rows t o old scratch pieces within h size zero = record {
  scratch_size = size;
  few = few_more n t o h.few;
  listed = listed_more n rows o h.listed;
  own = if_set pieces (AreMergedPieces g n rows) (AreMergedPieces g (n + 1) (named rows n o)) n scratch h.own (λ ps own. own_more g n rows o scratch ps within h.listed size zero own);
}

written_more : (g : Geometry) (of : ℕ → List Page) (n : ℕ) (piece : List ℕ) (ps : List (List ℕ)) → n < length ps → piece ≡ piece_of g (of n) → ((row : ℕ) → row < n → get_or ps row [] ≡ piece_of g (of row))
    → (row : ℕ) → row < n + 1 → get_or (set ps n piece) row [] ≡ piece_of g (of row)
written_more g of n piece ps inside is h row l = elim (cases_eq row n) [
  | inl same ↦ subst (λ k. get_or (set ps n piece) k [] ≡ piece_of g (of k)) (sym same) (get_or-set_same ps n piece [] inside ∙ is)
  | inr ne ↦ get_or-set_other ps n row piece [] ne ∙ h row (omega arith)
]

pub shows_more : (g : Geometry) (of : ℕ → List Page) (n : ℕ) (rows : List ℕ) (t : RowTally) (pages : List Page) (o : Origin) (old scratch : List ℕ) (pieces : Option (List (List ℕ))) → n < row_count g → MergingStands g n rows t old pieces
    → ShowsMerge g of n rows t pieces → of n ≡ pages → WritesChoice (choice g pages) o scratch → ShowsMerge g of (n + 1) (named rows n o) (with_origin_counted t o) (option_map (λ ps. set ps n scratch) pieces)
shows_more g of n rows t pages o old scratch pieces within stands h are written =
    let origin : o ≡ (choice g (of n)).origin = written.origin_is ∙ ap (λ ps. (choice g ps).origin) (sym are) in
    let piece : scratch ≡ piece_of g (of n) = written.bytes_are ∙ ap (piece_of g) (sym are) in
    record {
      conflicts_are = ap (λ xs. named xs n o) h.conflicts_are ∙ (ap (named (conflicts_below g of n) n) origin ∙ sym (conflicts_more g of n));
      tally_is = ap (λ x. with_origin_counted x o) h.tally_is ∙ (ap (with_origin_counted (tally_below g of n)) origin ∙ sym (tally_more g of n));
      pieces_are = both_set pieces (AreMergedPieces g n rows) (λ ps. (row : ℕ) → row < n → get_or ps row [] ≡ piece_of g (of row)) (λ ps. (row : ℕ) → row < n + 1 → get_or ps row [] ≡ piece_of g (of row)) n scratch stands.own h.pieces_are
          (λ ps own each. written_more g of n scratch ps (let size = own.size in omega arith) piece each);
    }

-- ---- a row of which two sound pages differ

turned_conflict : (p : Page) (n d : ℕ) (sound : List Page) (next : Choice) → (next.origin ≡ Conflict → ⊥) → (by_found p n d sound next).origin ≡ Conflict → ⊥
turned_conflict p n d [] next none e = none e
turned_conflict p n d (q ∷ others) next none e = by (list_all (is_same q) others) e
  where
    by : (b : Bool) → (cond b (chosen q (Tried (Taken n d))) (chosen p (Tried (Tied n d)))).origin ≡ Conflict → ⊥
    by true is = cc
    by false is = cc

turns_conflict : (p : Page) (bits numbers : List ℕ) → (by_turns p bits numbers).origin ≡ Conflict → ⊥
unfolding by_turns
turns_conflict p bits [] e = cc
turns_conflict p bits (n ∷ ns) e = turned_conflict p n (length bits) (filter is_sound (with_turned p bits n)) (by_turns p bits ns) (turns_conflict p bits ns) e

trial_conflict : (p : Page) (bits : List ℕ) → (by_trial p bits).origin ≡ Conflict → ⊥
unfolding by_trial
trial_conflict p bits e = by (is_tried (length bits)) e
  where
    by : (b : Bool) → (cond b (by_turns p bits (range_with_len 1 (length bits))) (chosen p Unsound)).origin ≡ Conflict → ⊥
    by true is = turns_conflict p bits (range_with_len 1 (length bits)) is
    by false is = cc

not_conflict : (g : Geometry) (pages programmed : List Page) → (by_programmed g pages programmed).origin ≡ Conflict → ⊥
not_conflict g pages [] e = cc
not_conflict g pages (p ∷ more) e = trial_conflict p (differing_bits p (p ∷ more)) e

no_conflict : (g : Geometry) (pages : List Page) → (by_majority g pages).origin ≡ Conflict → ⊥
unfolding by_majority
no_conflict g pages e = by (nat_le 3 (length pages) && is_sound (majority g pages)) e
  where
    by : (b : Bool) → (cond b (chosen (majority g pages) Majority) (by_programmed g pages (filter is_programmed pages))).origin ≡ Conflict → ⊥
    by true is = cc
    by false is = not_conflict g pages (filter is_programmed pages) is

conflict_page : (g : Geometry) (pages : List Page) → (choice g pages).origin ≡ Conflict → (choice g pages).its ≡ zero_page g
unfolding choice
conflict_page g pages e = over (filter is_sound pages) e
  where
    either : (p : Page) (b : Bool) → (cond b (chosen p Sound) (chosen (zero_page g) Conflict)).origin ≡ Conflict → (cond b (chosen p Sound) (chosen (zero_page g) Conflict)).its ≡ zero_page g
    either p true is = absurd (cc)
    either p false is = refl

    over : (sound : List Page) → (by_sound g pages sound).origin ≡ Conflict → (by_sound g pages sound).its ≡ zero_page g
    over [] is = absurd (no_conflict g pages is)
    over (p ∷ more) is = either p (list_all (is_same p) more) is

pub conflict_zero : (g : Geometry) (pages : List Page) (o : Origin) (scratch : List ℕ) → WritesChoice (choice g pages) o scratch → o ≡ Conflict → scratch ≡ replicate (page_bytes g) 0
conflict_zero g pages o scratch h e = h.bytes_are ∙ (ap bytes_of_page (conflict_page g pages (sym h.origin_is ∙ e)) ∙ replicate-append-replicate g.data_bytes g.spare_bytes 0)

-- the same, of what the code holds after it
pub stands_next : (g : Geometry) (n : ℕ) (rows : List ℕ) (t : RowTally) (pages : List Page) (o : Origin) (old out : List ℕ) (pieces : Option (List (List ℕ))) → n < row_count g → MergingStands g n rows t old pieces → length out ≡ page_bytes g
    → WritesChoice (choice g pages) o out → (rows' : List ℕ) (t' : RowTally) (scratch : List ℕ) (pieces' : Option (List (List ℕ))) → rows' ≡ named rows n o → t' ≡ with_origin_counted t o → scratch ≡ out
    → pieces' ≡ option_map (λ ps. set ps n scratch) pieces → MergingStands g (n + 1) rows' t' scratch pieces'
stands_next g n rows t pages o old out pieces within h size written rows' t' scratch pieces' a b c d =
    let whole : length scratch ≡ page_bytes g = ap length c ∙ size in
    let zero : o ≡ Conflict → scratch ≡ replicate (page_bytes g) 0 = λ e. c ∙ conflict_zero g pages o out written e in
    let next : MergingStands g (n + 1) (named rows n o) (with_origin_counted t o) scratch (option_map (λ ps. set ps n scratch) pieces) = stands_more g n rows t o old scratch pieces within h whole zero in
    let first : MergingStands g (n + 1) rows' (with_origin_counted t o) scratch (option_map (λ ps. set ps n scratch) pieces) =
    subst (λ (x : List ℕ). MergingStands g (n + 1) x (with_origin_counted t o) scratch (option_map (λ ps. set ps n scratch) pieces)) (sym a) next in
    let second : MergingStands g (n + 1) rows' t' scratch (option_map (λ ps. set ps n scratch) pieces) =
    subst (λ (x : RowTally). MergingStands g (n + 1) rows' x scratch (option_map (λ ps. set ps n scratch) pieces)) (sym b) first in
    subst (λ (x : Option (List (List ℕ))). MergingStands g (n + 1) rows' t' scratch x) (sym d) second

pub shows_next : (g : Geometry) (of : ℕ → List Page) (n : ℕ) (rows : List ℕ) (t : RowTally) (pages : List Page) (o : Origin) (old out : List ℕ) (pieces : Option (List (List ℕ))) → n < row_count g → MergingStands g n rows t old pieces
    → ShowsMerge g of n rows t pieces → of n ≡ pages → WritesChoice (choice g pages) o out → (rows' : List ℕ) (t' : RowTally) (scratch : List ℕ) (pieces' : Option (List (List ℕ))) → rows' ≡ named rows n o → t' ≡ with_origin_counted t o → scratch ≡ out
    → pieces' ≡ option_map (λ ps. set ps n scratch) pieces → ShowsMerge g of (n + 1) rows' t' pieces'
shows_next g of n rows t pages o old out pieces within stands h are written rows' t' scratch pieces' a b c d =
    let its : WritesChoice (choice g pages) o scratch = subst (λ (x : List ℕ). WritesChoice (choice g pages) o x) (sym c) written in
    let next : ShowsMerge g of (n + 1) (named rows n o) (with_origin_counted t o) (option_map (λ ps. set ps n scratch) pieces) = shows_more g of n rows t pages o old scratch pieces within stands h are its in
    let first : ShowsMerge g of (n + 1) rows' (with_origin_counted t o) (option_map (λ ps. set ps n scratch) pieces) =
    subst (λ (x : List ℕ). ShowsMerge g of (n + 1) x (with_origin_counted t o) (option_map (λ ps. set ps n scratch) pieces)) (sym a) next in
    let second : ShowsMerge g of (n + 1) rows' t' (option_map (λ ps. set ps n scratch) pieces) =
    subst (λ (x : RowTally). ShowsMerge g of (n + 1) rows' x (option_map (λ ps. set ps n scratch) pieces)) (sym b) first in
    subst (λ (x : Option (List (List ℕ))). ShowsMerge g of (n + 1) rows' t' x) (sym d) second

-- ---- before the first row

pub stands_first : (g : Geometry) (scratch : List ℕ) (pieces : Option (List (List ℕ))) → length scratch ≡ page_bytes g → IfSome pieces (λ ps. length ps ≡ row_count g) → MergingStands g 0 [] (the_tally 0 0 0 0 0) scratch pieces
stands_first g scratch pieces size whole = record {
  scratch_size = size;
  few = record { sound = omega arith; majority = omega arith; turned = omega arith; erased = omega arith; unsound = omega arith };
  listed = none_listed;
  own = if_more pieces (λ ps. length ps ≡ row_count g) (AreMergedPieces g 0 []) whole (λ ps all. record {
    size = all;
    sized = λ row l. absurd (omega arith);
    zeros = λ row at. absurd (let l = at.1 in omega arith);
  });
}

pub shows_first : (g : Geometry) (of : ℕ → List Page) (pieces : Option (List (List ℕ))) → ShowsMerge g of 0 [] (the_tally 0 0 0 0 0) pieces
unfolding conflicts_below tally_below
shows_first g of pieces = record { conflicts_are = refl; tally_is = refl; pieces_are = all pieces }
  where
    all : (o : Option (List (List ℕ))) → IfSome o (λ ps. (row : ℕ) → row < 0 → get_or ps row [] ≡ piece_of g (of row))
    all None = tt
    all (Some ps) = λ row l. absurd (omega arith)
