-- What a loss of power leaves.
use Rattle.std.proofs.Common.{◌≡◌, ◌≢◌, ◌⊎◌, inl, inr, ℕ, ◌<◌, ◌≤◌, length, get_or, set, slice_get, Option, Some, None, IsSome, refl, sym, ap, subst, ◌∙◌, arith}
use Rattle.std.proofs.lemmas.Bool.{cases_eq, cases_lt}
use Rattle.std.proofs.lemmas.List.{get_or-set_same, get_or_past, length-set}
use Rattle.page_layout.specs.declared.geometry.Geometry.{Geometry}
use Rattle.page_layout.specs.declared.record.Key.{Key}
use Rattle.page_layout.specs.declared.record.Key.TheVariants.{Sector, Table}
use Rattle.page_layout.specs.declared.record.Record.{Record}
use Rattle.page_layout.specs.Geometry.{entries, table_pages}
use Rattle.page_layout.specs.Page.{Page, Image, body_at}
use Rattle.page_layout.specs.Sound.{record_of}
use Rattle.page_layout.specs.Newest.{newest, sequence_at, IsNewest}
use Rattle.page_layout.specs.Array.{marks, content, content_at, sector_of}
use Rattle.page_layout.specs.Change.{IsUnsoundAt}
use Rattle.page_layout.proofs.ArrayLemmas.{array-same, body_same, length-marks, mark-page, mark-same, marks-set, sector-same, slice_get-set_other, slice_get-set_same}
use Rattle.page_layout.proofs.NewestLemmas.{Forgets, newest-is, newest-record, newest_forgets, newest_from, newest_some, sequence_at-is, sequence_at-same}
use Rattle.bad_blocks.specs.TablePage.{IsWellFormed}
use Rattle.image_check.specs.declared.refusal.Refusal.{Refusal}
use Rattle.image_check.specs.declared.refusal.Refusal.TheVariants as refusals
use Rattle.image_check.specs.Agrees.{HasTables}
use Rattle.image_check.specs.Blocks.{body_in, table_body}
use Rattle.image_check.specs.Stale.{stale_count}
use Rattle.image_check.specs.Mountable.{IsOrderly}
use Rattle.image_check.proofs.MountableLemmas.{mountable, orderly_of}
use Rattle.mount.specs.Mounted.{ShowsRefusal}
use Rattle.image_laws.specs.Power.{LosesPower, LosesSince, IsPageSince, FoundOneLaw, StoredNotLostLaw, NewestSinceLaw, EitherLaw, UnwrittenLaw, AllStoredLaw, ProgramGrowsLaw, NothingMissingLaw, AllLostLaw, OneMoreLostLaw}
use Rattle.image_laws.specs.Power.{MountedSince, StoredMountsLaw, ProgramMountsLaw, FoundMountsLaw, FoundRefusedLaw}
use Rattle.image_laws.proofs.AnswerLemmas.{none_newest}

-- ---- marks

-- a mark is there or not
pub which : {A : Type 0} (o : Option A) → (o ≡ None) ⊎ ((x : A) × (o ≡ Some x))
which None = inl refl
which (Some x) = inr (x, refl)

pub both : {A : Type 0} (o : Option A) (x : A) → o ≡ None → o ≡ Some x → ⊥
both o x none some = let clash : None ≡ Some x = sym none ∙ some in cc

of_some : {A : Type 0} (o : Option A) → IsSome o → (x : A) × (o ≡ Some x)
of_some None never = absurd (cc)
of_some (Some x) is = (x, refl)

forgets_since : (stored left found : Image) → LosesSince stored left found → Forgets (marks left) (marks found)
forgets_since stored left found loses = record {
  at = λ row. elim (loses.rows row) [
    | inl same ↦ inl (mark-same found left row same)
    | inr gone ↦ inr gone.1
  ];
}

-- a page that is found with a record is as it was left
as_left : (stored left found : Image) (row : ℕ) (r : Record) → LosesSince stored left found → get_or (marks found) row None ≡ Some r → slice_get found row ≡ slice_get left row
as_left stored left found row r loses has = elim (loses.rows row) [
  | inl same ↦ same
  | inr gone ↦ absurd (both _ r gone.1 has)
]

pub had : (stored left found : Image) (row : ℕ) (r : Record) → LosesSince stored left found → get_or (marks found) row None ≡ Some r → get_or (marks left) row None ≡ Some r
had stored left found row r loses has = sym (mark-same found left row (as_left stored left found row r loses has)) ∙ has

-- one that had a record when the image was stored is as it was then
pub stays : (g : Geometry) (stored left found : Image) (row : ℕ) (r : Record) → LosesPower g stored left found → get_or (marks stored) row None ≡ Some r → slice_get found row ≡ slice_get stored row
stays g stored left found row r power has = elim (power.loses.rows row) [
  | inl same ↦ same ∙ power.grows.kept row r has
  | inr gone ↦ absurd (both _ r gone.0 has)
]

-- ---- what may be

pub program_grows : ProgramGrowsLaw
program_grows stored left row p grows none = record {
  size = length-set left row p ∙ grows.size;
  kept = λ q r has.
      let apart : q ≢ row = λ same. both _ r (subst (λ k. get_or (marks stored) k None ≡ None) (sym same) none) has in
      slice_get-set_other left row q p apart ∙ grows.kept q r has;
}

pub none_lost : NothingMissingLaw
none_lost stored left = record { size = refl; rows = λ row. inl refl }

pub all_lost : AllLostLaw
all_lost stored left grows = record {
  size = sym grows.size;
  rows = λ row. elim (which (get_or (marks stored) row None)) [
    | inl none ↦ inr (none, none)
    | inr some ↦ inl (sym (grows.kept row some.0 some.1))
  ];
}

-- the page that is torn has no record
torn_here : (found : Image) (row : ℕ) (p : Page) → record_of p ≡ None → IsUnsoundAt (set found row p) row
torn_here found row p none = ap (λ ms. get_or ms row None) (marks-set found row p) ∙ (elim (cases_lt row (length (marks found))) [
  | inl within ↦ get_or-set_same (marks found) row (record_of p) None within ∙ none
  | inr past ↦ get_or_past (set (marks found) row (record_of p)) row None (omega (arith, length-set (marks found) row (record_of p)))
])

pub one_more_lost : OneMoreLostLaw
one_more_lost stored left found row p loses none torn = record {
  size = length-set found row p ∙ loses.size;
  rows = λ q. elim (cases_eq q row) [
    | inl same ↦ subst (λ k. (slice_get (set found row p) k ≡ slice_get left k) ⊎ (IsUnsoundAt stored k × IsUnsoundAt (set found row p) k)) (sym same) (inr (none, torn_here found row p torn))
    | inr apart ↦ elim (loses.rows q) [
      | inl as_was ↦ inl (slice_get-set_other found row q p apart ∙ as_was)
      | inr gone ↦ inr (gone.0, mark-same (set found row p) found q (slice_get-set_other found row q p apart) ∙ gone.1)
    ]
  ];
}

-- ---- the laws

pub found_one : FoundOneLaw
found_one g stored left found power =
    let back : (row : ℕ) (r : Record) → get_or (marks found) row None ≡ Some r → get_or (marks left) row None ≡ Some r = λ row r has. had stored left found row r power.loses has in
    record {
      distinct = record { apart = λ a b x y at_a at_b same. power.one.distinct.apart a b x y (back a x at_a) (back b y at_b) same };
      in_range = λ row r has. power.one.in_range row r (back row r has);
    }

pub stored_stays : StoredNotLostLaw
stored_stays g stored left found key q power is =
    let its = newest-record (marks stored) key q is in
    let here : get_or (marks found) q None ≡ Some its.0 = mark-same found stored q (stays g stored left found q its.0 power its.1) ∙ its.1 in
    let some = newest_some (marks found) q its.0 (found_one g stored left found power).distinct here in
    of_some (newest (marks found) key) (subst (λ k. IsSome (newest (marks found) k)) its.2 some)

-- a newest page that had its record when the image was stored was the newest one then
newest_then : (g : Geometry) (stored left found : Image) (key : Key) (row : ℕ) (r : Record) → LosesPower g stored left found → newest (marks found) key ≡ Some row → get_or (marks stored) row None ≡ Some r
    → newest (marks stored) key ≡ Some row
newest_then g stored left found key row r power is has =
    let now : IsNewest (marks found) key row = newest-is (marks found) key row is in
    let same : (q : ℕ) (x : Record) → get_or (marks stored) q None ≡ Some x → sequence_at (marks stored) key q ≡ sequence_at (marks found) key q =
    λ q x at. sequence_at-same (marks stored) (marks found) key q (sym (mark-same found stored q (stays g stored left found q x power at))) in
    let then : IsNewest (marks stored) key row = record {
      value = now.value;
      here = same row r has ∙ now.here;
      others = λ q s apart at.
          let its = sequence_at-is (marks stored) key q s at in
          now.others q s apart (sym (same q its.its its.is) ∙ at);
    } in
    newest_from (marks stored) key row then

pub since : NewestSinceLaw
since g stored left found key row power is =
    let its = newest-record (marks found) key row is in (
      as_left stored left found row its.0 power.loses its.1,
      elim (which (get_or (marks stored) row None)) [
        | inl none ↦ inr none
        | inr some ↦ inl (newest_then g stored left found key row some.0 power is some.1)
      ],
    )

-- it was programmed since, where it had none then
pub since_page : (g : Geometry) (stored left found : Image) (key : Key) (row : ℕ) → LosesPower g stored left found → newest (marks found) key ≡ Some row → IsUnsoundAt stored row → IsPageSince stored left key row
since_page g stored left found key row power is new =
    let its = newest-record (marks found) key row is in
    record { none = new; its = its.0; has = had stored left found row its.0 power.loses its.1; of = its.2 }

-- a key that has no newest page had none then
pub none_then : (g : Geometry) (stored left found : Image) (key : Key) → LosesPower g stored left found → newest (marks found) key ≡ None → newest (marks stored) key ≡ None
none_then g stored left found key power none = elim (which (newest (marks stored) key)) [
  | inl was ↦ was
  | inr some ↦
      let kept = stored_stays g stored left found key some.0 power some.1 in
      absurd (both (newest (marks found) key) kept.0 none kept.1)
]

-- ---- sectors

-- the newest page is the one that it was
unmoved : (g : Geometry) (stored left found : Image) (n : ℕ) → LosesPower g stored left found → newest (marks found) (Sector n) ≡ newest (marks stored) (Sector n) → sector_of g found n ≡ sector_of g stored n
unmoved g stored left found n power same = sector-same g stored found n same (λ row is.
    let its = newest-record (marks stored) (Sector n) row is in
    stays g stored left found row its.0 power its.1)

by_page : (g : Geometry) (left found : Image) (n row : ℕ) → newest (marks found) (Sector n) ≡ Some row → slice_get found row ≡ slice_get left row → sector_of g found n ≡ content_at g left (Some row)
unfolding sector_of
by_page g left found n row is same = ap (content_at g found) is ∙ ap (content g) same

pub either : EitherLaw
either g stored left found n power = elim (which (newest (marks found) (Sector n))) [
  | inl none ↦ inl (unmoved g stored left found n power (none ∙ sym (none_then g stored left found (Sector n) power none)))
  | inr some ↦ elim ((since g stored left found (Sector n) some.0 power some.1).1) [
    | inl was ↦ inl (unmoved g stored left found n power (some.1 ∙ sym was))
    | inr new ↦
        let page = since_page g stored left found (Sector n) some.0 power some.1 new in
        inr (some.0, page, by_page g left found n some.0 some.1 (since g stored left found (Sector n) some.0 power some.1).0)
  ]
]

pub unwritten : UnwrittenLaw
unwritten g stored left found n power same =
    let found_is : newest (marks found) (Sector n) ≡ newest (marks left) (Sector n) =
    newest_forgets (marks left) (marks found) (Sector n) power.one.distinct (forgets_since stored left found power.loses) (λ q is.
    let its = newest-record (marks stored) (Sector n) q (sym same ∙ is) in
    mark-same found left q (stays g stored left found q its.0 power its.1 ∙ sym (power.grows.kept q its.0 its.1))) in
    unmoved g stored left found n power (found_is ∙ same)

pub all_stored : AllStoredLaw
all_stored g stored found power = array-same g stored found (λ n. unwritten g stored stored found n power refl)

-- ---- that it mounts

-- where nothing was programmed since no page is one of those
pub no_page : (stored : Image) (key : Key) (row : ℕ) → IsPageSince stored stored key row → ⊥
no_page stored key row page = both _ page.its page.none page.has

pub stored_mounts : StoredMountsLaw
stored_mounts g capacity stored m = record {
  tables = m.agrees.tables;
  formed = λ u row within page. absurd (no_page stored (Table u) row page);
  last = (orderly_of g capacity stored m).last;
}

-- the newest page of a table is the body of it
newest_formed : (g : Geometry) (image : Image) (u row : ℕ) → HasTables g image → u < table_pages g → newest (marks image) (Table u) ≡ Some row → IsWellFormed (entries g) g.blocks u (body_at image row)
unfolding table_body
newest_formed g image u row tables within is = subst (IsWellFormed (entries g) g.blocks u) (ap (body_in image) is) (tables.formed u within)

-- a page that has a record after a program is the page of that program, or as it was
pub programmed : (left : Image) (row q : ℕ) (p : Page) (r : Record) → get_or (marks (set left row p)) q None ≡ Some r
    → ((q ≡ row) × (record_of p ≡ Some r) × (slice_get (set left row p) q ≡ Some p)) ⊎ (slice_get (set left row p) q ≡ slice_get left q)
programmed left row q p r has = elim (cases_eq q row) [
  | inr apart ↦ inr (slice_get-set_other left row q p apart)
  | inl same ↦ elim (cases_lt row (length left)) [
    | inl within ↦
        let here : slice_get (set left row p) q ≡ Some p = ap (slice_get (set left row p)) same ∙ slice_get-set_same left row p within in
        inl (same, sym (mark-page (set left row p) q p here) ∙ has, here)
    | inr past ↦
        let none : get_or (marks (set left row p)) q None ≡ None = get_or_past (marks (set left row p)) q None (omega (arith, same, length-set left row p, length-marks (set left row p))) in
        absurd (both _ r none has)
  ]
]

pub program_mounts : ProgramMountsLaw
program_mounts g capacity stored left row p mounted m newest_is = record {
  tables = mounted.tables;
  formed = λ u q within page. elim (programmed left row q p page.its page.has) [
    | inl now ↦
        let top : newest (marks (set left row p)) (Table u) ≡ Some q =
        subst (λ k. newest (marks (set left row p)) k ≡ Some q) page.of (newest_is page.its now.1 ∙ ap Some (sym now.0)) in
        newest_formed g (set left row p) u q m.agrees.tables within top
    | inr as_was ↦
        let was : IsPageSince stored left (Table u) q = record { none = page.none; its = page.its; has = sym (mark-same (set left row p) left q as_was) ∙ page.has; of = page.of } in
        subst (IsWellFormed (entries g) g.blocks u) (sym (body_same (set left row p) left q as_was)) (mounted.formed u q within was)
  ];
  last = (orderly_of g capacity (set left row p) m).last;
}

-- each newest table page that is found is well formed
found_formed : (g : Geometry) (stored left found : Image) (u row : ℕ) → LosesPower g stored left found → MountedSince g stored left → u < table_pages g → newest (marks found) (Table u) ≡ Some row
    → IsWellFormed (entries g) g.blocks u (body_at found row)
found_formed g stored left found u row power mounted within is =
    let at = since g stored left found (Table u) row power is in
    elim at.1 [
      | inl was ↦
          let its = newest-record (marks stored) (Table u) row was in
          let same = body_same found stored row (stays g stored left found row its.0 power its.1) in
          subst (IsWellFormed (entries g) g.blocks u) (sym same) (newest_formed g stored u row mounted.tables within was)
      | inr new ↦
          let page = since_page g stored left found (Table u) row power is new in
          subst (IsWellFormed (entries g) g.blocks u) (sym (body_same found left row at.0)) (mounted.formed u row within page)
    ]

found_tables : (g : Geometry) (stored left found : Image) → LosesPower g stored left found → MountedSince g stored left → HasTables g found
unfolding table_body
found_tables g stored left found power mounted =
    let there : (u : ℕ) → u < table_pages g → (row : ℕ) × (newest (marks found) (Table u) ≡ Some row) =
    λ u within. (let was = mounted.tables.formatted u within in stored_stays g stored left found (Table u) was.row power was.newest_is) in
    record {
      formatted = λ u within. (let row = there u within in record { row = row.0; newest_is = row.1 });
      formed = λ u within.
          let row = there u within in
          subst (IsWellFormed (entries g) g.blocks u) (sym (ap (body_in found) row.1)) (found_formed g stored left found u row.0 power mounted within row.1);
    }

found_orderly : (g : Geometry) (capacity : ℕ) (stored left found : Image) → LosesPower g stored left found → MountedSince g stored left → stale_count g found ≤ capacity → IsOrderly g capacity found
found_orderly g capacity stored left found power mounted few =
    let one = found_one g stored left found power in
    record {
      numbers = record { in_range = one.in_range };
      sequences = one.distinct;
      tables = found_tables g stored left found power mounted;
      last = record { below = λ row r has. mounted.last.below row r (had stored left found row r power.loses has) };
      fresh = few;
    }

pub found_mounts : FoundMountsLaw
found_mounts g capacity stored left found whole least most power mounted =
    let same = mountable g capacity found (power.loses.size ∙ whole) least most in
    (λ m. m.agrees.fresh, λ few. same.1 (found_orderly g capacity stored left found power mounted few))

-- an image that lacks room alone is refused for that
refused_stale : (g : Geometry) (capacity : ℕ) (image : Image) (r : Refusal) → IsOrderly g (stale_count g image) image → ShowsRefusal g capacity image r → r ≡ refusals.TooStale (stale_count g image) capacity
refused_stale g capacity image (refusals.NumberRange row) o h = absurd (h.at.outside (o.numbers.in_range row h.at.found h.at.here))
refused_stale g capacity image (refusals.SequenceRepeated a b) o h =
    let same : a ≡ b = o.sequences.apart a b h.pair.first h.pair.second h.pair.at_first h.pair.at_second h.pair.same in
    absurd (omega (arith, h.pair.order))
refused_stale g capacity image refusals.NotFormatted o h =
    let found = o.tables.formatted h.page h.within in
    absurd (both _ found.row (none_newest (marks image) (Table h.page) (newest (marks image) (Table h.page)) refl h.missing) found.newest_is)
refused_stale g capacity image (refusals.TableDamaged u) o h = absurd (h.wrong (o.tables.formed u h.within))
refused_stale g capacity image refusals.NextSequence o h =
    let below = o.last.below h.row h.last h.here in
    absurd (omega (arith, h.is))
refused_stale g capacity image (refusals.TooStale stale most) o h = (let one = h.0 in let two = h.1 in cc)
refused_stale g capacity image _ o h = absurd h

pub found_refused : FoundRefusedLaw
found_refused g capacity stored left found r power mounted (inl stop) = inl stop
found_refused g capacity stored left found r power mounted (inr un) =
    inr (refused_stale g capacity found r (found_orderly g (stale_count g found) stored left found power mounted (omega arith)) un.shows)
