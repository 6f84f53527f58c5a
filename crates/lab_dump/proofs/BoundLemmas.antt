-- How many sectors of a dump may be older than the last write.
use Rattle.std.proofs.Common.{◌≡◌, ◌⊎◌, inl, inr, ℕ, zero, suc, ◌+◌, ◌/◌, ◌<◌, ◌≤◌, List, [], ◌∷◌, ◌++◌, append-nil, cond, count_by, subst, length, get_or, set, Option, Some, None}
use Rattle.std.proofs.Common.{Bool, true, false, refl, sym, ap, ◌∙◌, arith, slice_get}
use Rattle.std.specs.Prelude.{◌&&◌, ◌||◌, ◌==◌, not, nat_lt, is_some}
use Rattle.std.specs.List.{list_any}
use Rattle.std.proofs.lemmas.List.Sums.{sum_by_push}
use Rattle.std.proofs.lemmas.Bool.{cases_Bool, cases_eq, cases_lt, lt-ltb, le-ltb, ltb-true, and_from, and_parts, true≢false}
use Rattle.std.proofs.lemmas.List.{get_or_past, length-set}
use Rattle.page_layout.specs.declared.geometry.Geometry.{Geometry}
use Rattle.page_layout.specs.declared.record.Record.{Record}
use Rattle.page_layout.specs.declared.record.Key.{Key}
use Rattle.page_layout.specs.declared.record.Key.TheVariants.{Sector, Translation, Table}
use Rattle.page_layout.specs.Geometry.{key_count}
use Rattle.page_layout.specs.Page.{Page, Image}
use Rattle.page_layout.specs.Sound.{record_of, is_erased_page}
use Rattle.page_layout.specs.Key.{key_eq, key_of}
use Rattle.page_layout.specs.Newest.{newest, sequence_at}
use Rattle.page_layout.proofs.KeyLemmas.{key_eq-same}
use Rattle.page_layout.specs.Array.{marks}
use Rattle.page_layout.specs.Block.{is_broken, is_programmed}
use Rattle.page_layout.proofs.RecordLemmas.{erased_no_record}
use Rattle.page_layout.proofs.NewestLemmas.{Forgets, newest-is, newest_forgets, newest-record, newest-within, sequence_at-key, sequence_at-none, sequence_at-same}
use Rattle.page_layout.proofs.ArrayLemmas.{length-marks, mark-page, mark-same, sector-same, slice_get-set_other, slice_get-set_same}
use Rattle.page_layout.specs.Change.{one_if}
use Rattle.image_check.specs.Blocks.{is_factory}
use Rattle.lab_dump.specs.Bad.{is_excused, is_plain, is_rewritten, keeps_below}
use Rattle.lab_dump.specs.Doubts.{has_page, is_programmed_at, is_unsound_at, is_hole, rows_passing, doubts_of}
use Rattle.lab_dump.specs.Bound.{IsDumpOf, is_gone_from, is_gone, BrokenPageLaw, OwnRowLaw, BoundLaw, NotGoneReadsSameLaw, HoleLostLaw}
use Rattle.lab_dump.proofs.CountLemmas.{broken_of}
use Rattle.lab_dump.specs.declared.said.SaidPage.{SaidPage}
use Rattle.lab_dump.specs.Doubts.{legible_of}
use Rattle.lab_dump.specs.Named.{OthersLaw, SaysTrue, is_named_newer, names}
use Rattle.lab_dump.specs.Said.{is_newer, said_below, said_by, said_in_row, said_of, says}
use Rattle.lab_dump.proofs.ConcludeLemmas.{is_open_page}
use Rattle.lab_dump.proofs.SaidLemmas.{newer_law, said_law, says_is}
use Rattle.lab_dump.proofs.DoubtLemmas.{upto, upto_more, upto_none, upto_sum, hole_law, sorted}

-- ---- pages of rows

page_at : (image : Image) (row : ℕ) → row < length image → (p : Page) × (slice_get image row ≡ Some p)
page_at [] row l = absurd (omega arith)
page_at (p ∷ ps) zero l = (p, refl)
page_at (p ∷ ps) (suc row) l = page_at ps row (omega arith)

unsound_of : (o : Option Record) → is_some o ≡ false → o ≡ None
unsound_of None e = refl
unsound_of (Some r) e = absurd (true≢false e)

-- a sound page is not erased
sound_programmed : (p : Page) (r : Record) → record_of p ≡ Some r → is_programmed p ≡ true
sound_programmed p r is = elim (cases_Bool (is_erased_page p)) [
  | inl e ↦ absurd (let clash : Some r ≡ None = sym is ∙ erased_no_record p e in cc)
  | inr e ↦ ap not e
]

-- ---- a row of its own

-- there is a newest page, and its row has no sound page in the dump
record IsLostIn (die dump : Image) (n : ℕ) : Type 0 where
  row : ℕ
  newest_is : newest (marks die) (Sector n) ≡ Some row
  gone : get_or (marks dump) row None ≡ None

lost_from : (die dump : Image) (n : ℕ) (o : Option ℕ) → newest (marks die) (Sector n) ≡ o → is_gone_from dump o ≡ true → IsLostIn die dump n
lost_from die dump n None is e = absurd (true≢false (sym e))
lost_from die dump n (Some row) is e = record { row = row; newest_is = is; gone = unsound_of (get_or (marks dump) row None) (unset (is_some (get_or (marks dump) row None)) e) }
  where
    unset : (b : Bool) → not b ≡ true → b ≡ false
    unset true h = absurd (true≢false (sym h))
    unset false h = refl

lost_in : (die dump : Image) (n : ℕ) → is_gone die dump n ≡ true → IsLostIn die dump n
unfolding is_gone
lost_in die dump n e = lost_from die dump n (newest (marks die) (Sector n)) refl e

abbrev number_of : Key → ℕ
number_of (Sector n) = n
number_of (Translation t) = 0
number_of (Table u) = 0

abbrev owner_of : Option Record → ℕ
owner_of None = 0
owner_of (Some r) = number_of (key_of r)

-- the sector whose newest page stands in a row is that of the page's record
owner_is : (die : Image) (n row : ℕ) → newest (marks die) (Sector n) ≡ Some row → owner_of (get_or (marks die) row None) ≡ n
owner_is die n row is = let found = newest-record (marks die) (Sector n) row is in ap owner_of found.1 ∙ ap number_of found.2

pub own_row_law : OwnRowLaw
own_row_law g die dump n of e =
    let lost = lost_in die dump n e in
    let row = lost.row in
    let within : row < length die = (let l = newest-within (marks die) (Sector n) row lost.newest_is in omega (arith, length-marks die)) in
    let here = page_at die row within in
    let there = page_at dump row (let size = of.size in omega arith) in
    let found = newest-record (marks die) (Sector n) row lost.newest_is in
    let programmed : is_programmed_at die row ≡ true = ap (has_page is_programmed) here.1 ∙ sound_programmed here.0 found.0 (sym (mark-page die row here.0 here.1) ∙ found.1) in
    let unsound : record_of there.0 ≡ None = sym (mark-page dump row there.0 there.1) ∙ lost.gone in
    record {
      row = row;
      newest_is = lost.newest_is;
      own = λ m is. sym (owner_is die m row is) ∙ owner_is die n row lost.newest_is;
      broken = elim (cases_Bool (is_erased_page there.0)) [
        | inl erased ↦ inr ((hole_law g dump row).1 (of.followed row programmed (ap (has_page is_erased_page) there.1 ∙ erased)))
        | inr not_erased ↦ inl (ap (has_page is_broken) there.1 ∙ broken_of there.0 not_erased (ap is_some unsound))
      ];
      stays_open = elim (cases_Bool (is_factory g dump (row / g.pages))) [
        | inl factory ↦ absurd (let clash : Some found.0 ≡ None = sym found.1 ∙ of.unused row factory in cc)
        | inr used ↦ elim (cases_Bool (is_rewritten g dump (row / g.pages))) [
          | inl rewritten ↦ absurd (true≢false (sym e ∙ of.moved n row lost.newest_is rewritten))
          | inr kept ↦ ap (λ b. b || is_rewritten g dump (row / g.pages)) used ∙ kept
        ]
      ];
    }

-- ---- there is such a dump

not_both : (o : Option Page) → has_page is_programmed o ≡ true → has_page is_erased_page o ≡ true → ⊥
not_both None programmed erased = true≢false (sym programmed)
not_both (Some p) programmed erased = true≢false (sym programmed ∙ ap not erased)

pub broken_page_law : BrokenPageLaw
unfolding is_rewritten
broken_page_law g die row p within broken fine =
    let dump : Image = set die row p in
    let parts = and_parts (not (is_erased_page p)) (not (is_some (record_of p))) broken in
    let here : slice_get dump row ≡ Some p = slice_get-set_same die row p within in
    record {
      size = length-set die row p;
      page = λ at was is was_at is_at. elim (cases_eq at row) [
        | inl same ↦ inr (let both : Some is ≡ Some p = sym is_at ∙ (ap (slice_get dump) same ∙ here) in let now : is ≡ p = cc in ap record_of now ∙ unsound_of (record_of p) (unset (is_some (record_of p)) parts.1))
        | inr ne ↦ inl (let both : Some is ≡ Some was = sym is_at ∙ (slice_get-set_other die row at p ne ∙ was_at) in cc)
      ];
      followed = λ at programmed erased. absurd (elim (cases_eq at row) [
        | inl same ↦ true≢false (sym parts.0 ∙ ap not (sym (ap (has_page is_erased_page) (ap (slice_get dump) same ∙ here)) ∙ erased))
        | inr ne ↦ not_both (slice_get die at) programmed (sym (ap (has_page is_erased_page) (slice_get-set_other die row at p ne)) ∙ erased)
      ]);
      unused = λ at factory. absurd (true≢false (sym factory ∙ ap (λ k. k == 1) (fine (at / g.pages))));
      moved = λ n at newest_is rewritten. absurd (true≢false (sym rewritten ∙ ap (λ k. (k == 2) && (is_plain g dump && not (keeps_below g dump (key_count g) (at / g.pages)))) (fine (at / g.pages))));
    }
  where
    unset : (b : Bool) → not b ≡ true → b ≡ false
    unset true h = absurd (true≢false (sym h))
    unset false h = refl

-- ---- counts

upto_le : (f h : ℕ → Bool) (n : ℕ) → ((k : ℕ) → k < n → f k ≡ true → h k ≡ true) → upto f n ≤ upto h n
upto_le f h zero e = omega arith
upto_le f h (suc n) e =
    let before : upto f n ≤ upto h n = upto_le f h n (λ k l. e k (omega arith)) in
    let a = upto_more f n in
    let b = upto_more h n in
    elim (cases_Bool (f n)) [
      | inl is ↦ (let x : one_if (f n) ≡ 1 = ap one_if is in let y : one_if (h n) ≡ 1 = ap one_if (e n (omega arith) is) in omega arith)
      | inr not_so ↦ (let x : one_if (f n) ≡ 0 = ap one_if not_so in omega arith)
    ]

-- at most one more passes
upto_but : (f h : ℕ → Bool) (k n : ℕ) → ((m : ℕ) → m < n → f m ≡ true → (h m ≡ true) ⊎ (m ≡ k)) → upto f n ≤ upto h n + 1
upto_but f h k zero e = omega arith
upto_but f h k (suc n) e =
    let before : upto f n ≤ upto h n + 1 = upto_but f h k n (λ m l. e m (omega arith)) in
    let a = upto_more f n in
    let b = upto_more h n in
    elim (cases_Bool (f n)) [
      | inl is ↦ (let x : one_if (f n) ≡ 1 = ap one_if is in elim (e n (omega arith) is) [
        | inl also ↦ (let y : one_if (h n) ≡ 1 = ap one_if also in omega arith)
        | inr last ↦ (let all : upto f n ≤ upto h n = upto_le f h n (λ m l at. elim (e m (omega arith) at) [ inl here ↦ here | inr same ↦ absurd (omega arith) ]) in omega arith)
      ])
      | inr not_so ↦ (let x : one_if (f n) ≡ 0 = ap one_if not_so in omega arith)
    ]

upto_either : (f h : ℕ → Bool) (n : ℕ) → upto (λ k. f k || h k) n ≤ upto f n + upto h n
upto_either f h zero = omega arith
upto_either f h (suc n) =
    let before = upto_either f h n in
    let a = upto_more f n in
    let b = upto_more h n in
    let c = upto_more (λ k. f k || h k) n in
    let d = either (f n) (h n) in
    omega arith
  where
    either : (a b : Bool) → one_if (a || b) ≤ one_if a + one_if b
    either true b = omega arith
    either false b = omega arith

-- ---- the bound

abbrev row_below : ℕ → Option ℕ → Bool
row_below rows None = false
row_below rows (Some row) = nat_lt row rows

-- the sector passes, and its newest page stood in one of the first rows
abbrev passes_below : (ℕ → Bool) → Image → ℕ → ℕ → Bool
passes_below test die rows n = test n && row_below rows (newest (marks die) (Sector n))

abbrev is_open : Geometry → Image → ℕ → Bool
is_open g dump row = not (is_excused g dump (row / g.pages))

abbrev is_told : Geometry → Image → ℕ → Bool
is_told g dump row = (is_unsound_at dump row && is_open g dump row) || (is_hole g dump row && is_open g dump row)

told_by : (a b c : Bool) → (a ≡ true) ⊎ (b ≡ true) → c ≡ true → ((a && c) || (b && c)) ≡ true
told_by true b true (inl e) h = refl
told_by true b true (inr e) h = refl
told_by false b true (inl e) h = absurd (true≢false (sym e))
told_by false b true (inr e) h = ap (λ t. t && true) e
told_by a b false e h = absurd (true≢false (sym h))

below_last : (rows : ℕ) (o : Option ℕ) → row_below (suc rows) o ≡ true → (row_below rows o ≡ true) ⊎ (o ≡ Some rows)
below_last rows None e = inl e
below_last rows (Some row) e = elim (cases_lt row rows) [
  | inl less ↦ inl (lt-ltb row rows less)
  | inr more ↦ (let l = ltb-true row (suc rows) e in inr (ap Some (let same : row ≡ rows = omega arith in same)))
]

-- where the row of the newest page of each sector that passes is told, at most as many pass as rows are told
bounded : (die : Image) (test told : ℕ → Bool) (sectors rows : ℕ) → ((n row : ℕ) → test n ≡ true → newest (marks die) (Sector n) ≡ Some row → told row ≡ true) → upto (passes_below test die rows) sectors ≤ upto told rows
bounded die test told sectors zero own =
    let none : upto (passes_below test die 0) sectors ≡ 0 = upto_none (passes_below test die 0) sectors (λ n l. no_rows (test n) (newest (marks die) (Sector n))) in
    omega arith
  where
    never : (a : Bool) → (a && false) ≡ false
    never true = refl
    never false = refl

    no_rows : (a : Bool) (o : Option ℕ) → (a && row_below 0 o) ≡ false
    no_rows a None = never a
    no_rows a (Some row) = ap (λ b. a && b) (le-ltb row 0 (omega arith)) ∙ never a
bounded die test told sectors (suc rows) own = by (bounded die test told sectors rows own) (told rows) refl
  where
    -- it stood in an earlier row, or in the last of them
    earlier : (n : ℕ) → passes_below test die (suc rows) n ≡ true → (passes_below test die rows n ≡ true) ⊎ ((test n ≡ true) × (newest (marks die) (Sector n) ≡ Some rows))
    earlier n e =
        let both = and_parts (test n) (row_below (suc rows) (newest (marks die) (Sector n))) e in
        elim (below_last rows (newest (marks die) (Sector n)) both.1) [
          | inl less ↦ inl (and_from (test n) (row_below rows (newest (marks die) (Sector n))) both.0 less)
          | inr last ↦ inr (both.0, last)
        ]

    by : upto (passes_below test die rows) sectors ≤ upto told rows → (b : Bool) → told rows ≡ b → upto (passes_below test die (suc rows)) sectors ≤ upto told (suc rows)
    by before true e =
        let more : upto (passes_below test die (suc rows)) sectors ≤ upto (passes_below test die rows) sectors + 1 =
        upto_but (passes_below test die (suc rows)) (passes_below test die rows) (owner_of (get_or (marks die) rows None)) sectors
        (λ n l is. elim (earlier n is) [ inl less ↦ inl less | inr last ↦ inr (sym (owner_is die n rows last.1)) ]) in
        let a = upto_more told rows in
        let x : one_if (told rows) ≡ 1 = ap one_if e in
        omega arith
    by before false e =
        let same : upto (passes_below test die (suc rows)) sectors ≤ upto (passes_below test die rows) sectors =
        upto_le (passes_below test die (suc rows)) (passes_below test die rows) sectors (λ n l is. elim (earlier n is) [
          | inl less ↦ less
          | inr last ↦ absurd (true≢false (sym (own n rows last.0 last.1) ∙ e))
        ]) in
        let a = upto_more told rows in
        let x : one_if (told rows) ≡ 0 = ap one_if e in
        omega arith

same_row : (a b : ℕ) → Some a ≡ Some b → a ≡ b
same_row a b s = cc

-- the sectors that pass, whose newest pages are gone, are those with a row below the last one
all_below : (die dump : Image) (test : ℕ → Bool) (sectors : ℕ) → length dump ≡ length die → ((n : ℕ) → test n ≡ true → is_gone die dump n ≡ true) → upto test sectors ≤ upto (passes_below test die (length dump)) sectors
all_below die dump test sectors size gone = upto_le test (passes_below test die (length dump)) sectors (λ n l e.
    let lost = lost_in die dump n (gone n e) in
    let within = newest-within (marks die) (Sector n) lost.row lost.newest_is in
    and_from (test n) (row_below (length dump) (newest (marks die) (Sector n))) e (ap (row_below (length dump)) lost.newest_is ∙ lt-ltb lost.row (length dump) (omega (arith, length-marks die))))

pub bound_law : BoundLaw
unfolding doubts_of rows_passing
bound_law g die dump sectors of =
    let rows = length dump in
    let own : (n row : ℕ) → is_gone die dump n ≡ true → newest (marks die) (Sector n) ≡ Some row → is_told g dump row ≡ true = λ n row e newest_is.
    let found = own_row_law g die dump n of e in
    let at : found.row ≡ row = same_row found.row row (sym found.newest_is ∙ newest_is) in
    subst (λ r. is_told g dump r ≡ true) at (told_by (is_unsound_at dump found.row) (is_hole g dump found.row) (is_open g dump found.row) found.broken (ap not found.stays_open)) in
    let gone = all_below die dump (is_gone die dump) sectors of.size (λ n e. e) in
    let told = bounded die (is_gone die dump) (is_told g dump) sectors rows own in
    let apart = upto_either (λ row. is_unsound_at dump row && is_open g dump row) (λ row. is_hole g dump row && is_open g dump row) rows in
    omega arith

-- ---- every other sector

mark_past : (image : Image) (row : ℕ) → length image ≤ row → get_or (marks image) row None ≡ None
mark_past image row l = get_or_past (marks image) row None (omega (arith, length-marks image))

-- a page of the dump is that of the die, or not sound
pub forgets : (g : Geometry) (die dump : Image) → IsDumpOf g die dump → Forgets (marks die) (marks dump)
forgets g die dump of = record {
  at = λ row. elim (cases_lt row (length die)) [
    | inl within ↦
        (let here = page_at die row within in
        let there = page_at dump row (let size = of.size in omega arith) in
        elim (of.page row here.0 there.0 here.1 there.1) [
          | inl same ↦ inl (mark-same dump die row (there.1 ∙ (ap Some same ∙ sym here.1)))
          | inr gone ↦ inr (mark-page dump row there.0 there.1 ∙ gone)
        ])
    | inr past ↦ inr (mark_past dump row (let size = of.size in omega arith))
  ];
}

kept_from : (g : Geometry) (die dump : Image) (n row : ℕ) → IsDumpOf g die dump → is_gone die dump n ≡ false → newest (marks die) (Sector n) ≡ Some row → slice_get dump row ≡ slice_get die row
unfolding is_gone
kept_from g die dump n row of e is =
    let within : row < length die = (let l = newest-within (marks die) (Sector n) row is in omega (arith, length-marks die)) in
    let here = page_at die row within in
    let there = page_at dump row (let size = of.size in omega arith) in
    let some : not (is_some (get_or (marks dump) row None)) ≡ false = sym (ap (is_gone_from dump) is) ∙ e in
    elim (of.page row here.0 there.0 here.1 there.1) [
      | inl same ↦ there.1 ∙ (ap Some same ∙ sym here.1)
      | inr gone ↦ absurd (true≢false (sym (ap (λ o. not (is_some o)) (mark-page dump row there.0 there.1 ∙ gone)) ∙ some))
    ]

pub kept_law : NotGoneReadsSameLaw
kept_law g die dump n of distinct e =
    let kept = λ (row : ℕ) (is : newest (marks die) (Sector n) ≡ Some row). kept_from g die dump n row of e is in
    sector-same g die dump n (newest_forgets (marks die) (marks dump) (Sector n) distinct (forgets g die dump of) (λ row is. mark-same dump die row (kept row is))) kept

-- ---- holes were lost

pub hole_lost_law : HoleLostLaw
hole_lost_law g die dump row size ordered programmed hole =
    let later : is_programmed_at die hole.later ≡ true = programmed hole.later hole.programmed in
    sorted die row false (let l = hole.behind in let end = within die hole.later later in omega arith) (ordered row hole.later hole.behind hole.same_block later)
  where
    within : (image : Image) (r : ℕ) → is_programmed_at image r ≡ true → r < length image
    within [] r e = absurd (true≢false (sym e))
    within (p ∷ ps) zero e = omega arith
    within (p ∷ ps) (suc r) e = let l = within ps r e in omega arith

-- ---- those that no page names

abbrev says_of : Geometry → Option Page → Option Record
says_of g None = None
says_of g (Some p) = says g p

abbrev is_legible : Geometry → Image → ℕ → Bool
is_legible g image row = is_some (says_of g (slice_get image row))

legible_upto : (g : Geometry) (image : Image) (n : ℕ) → count_by (is_open_page g image) (said_below g image n) ≡ upto (λ row. is_legible g image row && is_open g image row) n
unfolding said_below
legible_upto g image zero = refl
legible_upto g image (suc n) =
    in_row (said_below g image n) (slice_get image n) ∙ (ap (λ k. k + one_if (is_legible g image n && is_open g image n)) (legible_upto g image n) ∙ sym (upto_more (λ row. is_legible g image row && is_open g image row) n))
  where
    nothing_more : (xs : List SaidPage) → count_by (is_open_page g image) (xs ++ []) ≡ count_by (is_open_page g image) xs + 0
    nothing_more xs = let same = ap (count_by (is_open_page g image)) (append-nil xs) in omega arith

    in_page : (xs : List SaidPage) (o : Option Record) → count_by (is_open_page g image) (xs ++ said_by n o) ≡ count_by (is_open_page g image) xs + one_if (is_some o && is_open g image n)
    in_page xs None = nothing_more xs
    in_page xs (Some r) = sum_by_push (λ y. cond (is_open_page g image y) 1 0) xs (record { row = n; says = r; newer = false })

    in_row : (xs : List SaidPage) (o : Option Page) → count_by (is_open_page g image) (xs ++ said_in_row g n o) ≡ count_by (is_open_page g image) xs + one_if (is_some (says_of g o) && is_open g image n)
    in_row xs None = nothing_more xs
    in_row xs (Some p) = in_page xs (says g p)

-- a page that says something is neither erased nor sound
legible_unsound : (g : Geometry) (o : Option Page) → is_some (says_of g o) ≡ true → has_page is_broken o ≡ true
legible_unsound g None e = absurd (true≢false (sym e))
legible_unsound g (Some p) e = by (says g p) refl e
  where
    by : (o : Option Record) → says g p ≡ o → is_some o ≡ true → is_broken p ≡ true
    by None is h = absurd (true≢false (sym h))
    by (Some r) is h = (says_is g p r is).broken

record SaysHere (g : Geometry) (image : Image) (row : ℕ) : Type 0 where
  page : Page
  its : Record
  at : slice_get image row ≡ Some page
  is : says g page ≡ Some its

says_here : (g : Geometry) (image : Image) (row : ℕ) (o : Option Page) → slice_get image row ≡ o → is_some (says_of g o) ≡ true → SaysHere g image row
says_here g image row None at e = absurd (true≢false (sym e))
says_here g image row (Some p) at e = by (says g p) refl e
  where
    by : (o : Option Record) → says g p ≡ o → is_some o ≡ true → SaysHere g image row
    by None is h = absurd (true≢false (sym h))
    by (Some r) is h = record { page = p; its = r; at = at; is = is }

no_record : (p : Page) → is_broken p ≡ true → record_of p ≡ None
no_record p e = unsound_of (record_of p) (unset (is_some (record_of p)) (and_parts (not (is_erased_page p)) (not (is_some (record_of p))) e).1)
  where
    unset : (b : Bool) → not b ≡ true → b ≡ false
    unset true h = absurd (true≢false (sym h))
    unset false h = refl

any_get : (f : SaidPage → Bool) (xs : List SaidPage) (k : ℕ) (x : SaidPage) → k < length xs → f (get_or xs k x) ≡ true → list_any f xs ≡ true
any_get f [] k x l e = absurd (omega arith)
any_get f (y ∷ ys) zero x l e = ap (λ b. b || list_any f ys) e
any_get f (y ∷ ys) (suc k) x l e = right (f y) (any_get f ys k x (omega arith) e)
  where
    right : (a : Bool) → list_any f ys ≡ true → (a || list_any f ys) ≡ true
    right true h = refl
    right false h = h

some_same : {A : Type 0} {x y : A} → Some x ≡ Some y → x ≡ y
some_same e = cc

-- a page that says what its row had names the sector whose newest page that was
names_it : (g : Geometry) (die dump : Image) (n row : ℕ) → IsDumpOf g die dump → SaysTrue g die dump → newest (marks die) (Sector n) ≡ Some row → SaysHere g dump row → is_named_newer g dump n ≡ true
unfolding is_named_newer
names_it g die dump n row of true_is newest_is here =
    let r = here.its in
    let mark : get_or (marks die) row None ≡ Some r = true_is row here.page r here.at here.is in
    let found = newest-record (marks die) (Sector n) row newest_is in
    let same : r ≡ found.0 = some_same (sym mark ∙ found.1) in
    let key_is : key_of r ≡ Sector n = ap key_of same ∙ found.2 in
    let top = newest-is (marks die) (Sector n) row newest_is in
    let value : top.value ≡ r.sequence = some_same (sym top.here ∙ (ap (λ k. sequence_at (marks die) k row) (sym key_is) ∙ sequence_at-key (marks die) row r mark)) in
    let none : get_or (marks dump) row None ≡ None = mark-page dump row here.page here.at ∙ no_record here.page (says_is g here.page r here.is).broken in
    let newer : is_newer dump r ≡ true = (newer_law dump r).1 (λ q s at. elim ((forgets g die dump of).at q) [
      | inr gone ↦ absurd (let clash : None ≡ Some s = sym (sequence_at-none (marks dump) (key_of r) q gone) ∙ at in cc)
      | inl kept ↦
          (let in_die : sequence_at (marks die) (Sector n) q ≡ Some s = ap (λ k. sequence_at (marks die) k q) (sym key_is) ∙ (sym (sequence_at-same (marks dump) (marks die) (key_of r) q kept) ∙ at) in
          elim (cases_eq q row) [
            | inl at_row ↦ absurd (let clash : None ≡ Some s = sym (sequence_at-none (marks dump) (key_of r) row none) ∙ (ap (sequence_at (marks dump) (key_of r)) (sym at_row) ∙ at) in cc)
            | inr other ↦ (let less = top.others q s other in_die in omega arith)
          ])
    ]) in
    let x : SaidPage = record { row = row; says = r; newer = is_newer dump r } in
    let place = (said_law g dump x).1 (record { page = here.page; at = here.at; says_is = here.is; newer_is = refl }) in
    let passes : names n x ≡ true = and_from (is_newer dump r) (key_eq (key_of r) (Sector n)) newer (ap (λ k. key_eq k (Sector n)) key_is ∙ key_eq-same (Sector n)) in
    any_get (names n) (said_of g dump) place.0 x place.1 (ap (names n) place.2 ∙ passes)

abbrev is_silent : Geometry → Image → ℕ → Bool
is_silent g dump row = is_unsound_at dump row && not (is_legible g dump row)

abbrev is_other : Geometry → Image → ℕ → Bool
is_other g dump row = (is_silent g dump row && is_open g dump row) || (is_hole g dump row && is_open g dump row)

pub others_law : OthersLaw
unfolding doubts_of rows_passing legible_of
others_law g die dump sectors of true_is =
    let rows = length dump in
    let test : ℕ → Bool = λ n. is_gone die dump n && not (is_named_newer g dump n) in
    let own : (n row : ℕ) → test n ≡ true → newest (marks die) (Sector n) ≡ Some row → is_other g dump row ≡ true = λ n row e newest_is.
    let both = and_parts (is_gone die dump n) (not (is_named_newer g dump n)) e in
    let found = own_row_law g die dump n of both.0 in
    let at : found.row ≡ row = same_row found.row row (sym found.newest_is ∙ newest_is) in
    let silent : (is_silent g dump found.row ≡ true) ⊎ (is_hole g dump found.row ≡ true) = elim found.broken [
      | inl unsound ↦ elim (cases_Bool (is_legible g dump found.row)) [
        | inl legible ↦
            absurd (true≢false (sym both.1 ∙ ap not (names_it g die dump n found.row of true_is found.newest_is (says_here g dump found.row (slice_get dump found.row) refl legible))))
        | inr not_so ↦ inl (and_from (is_unsound_at dump found.row) (not (is_legible g dump found.row)) unsound (ap not not_so))
      ]
      | inr hole ↦ inr hole
    ] in
    subst (λ r. is_other g dump r ≡ true) at (told_by (is_silent g dump found.row) (is_hole g dump found.row) (is_open g dump found.row) silent (ap not found.stays_open)) in
    let gone = all_below die dump test sectors of.size (λ n e. (and_parts (is_gone die dump n) (not (is_named_newer g dump n)) e).0) in
    let told = bounded die test (is_other g dump) sectors rows own in
    let apart = upto_either (λ row. is_silent g dump row && is_open g dump row) (λ row. is_hole g dump row && is_open g dump row) rows in
    let split : upto (λ row. is_unsound_at dump row && is_open g dump row) rows ≡ upto (λ row. is_silent g dump row && is_open g dump row) rows + upto (λ row. is_legible g dump row && is_open g dump row) rows =
    upto_sum (λ row. is_silent g dump row && is_open g dump row) (λ row. is_legible g dump row && is_open g dump row) (λ row. is_unsound_at dump row && is_open g dump row) rows
    (λ row l. pairs (is_unsound_at dump row) (is_legible g dump row) (is_open g dump row) (legible_unsound g (slice_get dump row))) in
    let legible = legible_upto g dump rows in
    omega arith
  where
    pairs : (u l o : Bool) → (l ≡ true → u ≡ true) → one_if (u && o) ≡ one_if ((u && not l) && o) + one_if (l && o)
    pairs true true true h = refl
    pairs true true false h = refl
    pairs true false true h = refl
    pairs true false false h = refl
    pairs false true o h = absurd (true≢false (sym (h refl)))
    pairs false false o h = refl
