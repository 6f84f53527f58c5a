-- What is told of a die, and what is not.
use Rattle.std.proofs.Common.{◌≡◌, ◌≢◌, ◌⊎◌, inl, inr, ℕ, zero, suc, ◌+◌, ◌<◌, ◌≤◌, ◌/◌, ◌%◌, Bool, true, false, List, [], ◌∷◌, get_or, slice_get, length, Option, Some, None, refl, sym, ap, ◌∙◌, subst, arith}
use Rattle.std.specs.Prelude.{filter, slice_set}
use Rattle.std.specs.List.{range_with_len}
use Rattle.std.proofs.lemmas.Bool.{cases_eq, cases_lt, cond-true, cond-false, eqb-true, false_from_ne_true, not-false}
use Rattle.std.proofs.lemmas.List.{get_or-set_same, get_or-set_other, get_or_past, length-set}
use Rattle.page_layout.specs.declared.geometry.Geometry.{Geometry}
use Rattle.page_layout.specs.declared.record.Record.{Record}
use Rattle.page_layout.specs.declared.record.Key.{Key}
use Rattle.page_layout.specs.declared.record.Key.TheVariants.{Sector, Translation}
use Rattle.page_layout.specs.Geometry.{entries}
use Rattle.page_layout.specs.Page.{Image, Page, body_at}
use Rattle.page_layout.specs.Sound.{record_of}
use Rattle.page_layout.specs.Key.{key_of}
use Rattle.page_layout.specs.Newest.{IsNewest, newest, sequence_at}
use Rattle.page_layout.specs.OneArray.{AreBelow}
use Rattle.page_layout.specs.Array.{marks, HasOneArray}
use Rattle.page_layout.specs.Change.{IsUnsoundAt, Keeps, Writes}
use Rattle.page_layout.proofs.ArrayLemmas.{body_same, mark-same, marks-set, slice_get-set_other}
use Rattle.page_layout.proofs.KeyLemmas.{cases_key}
use Rattle.page_layout.proofs.NewestLemmas.{Forgets, newest-record, newest-is, newest_forgets, sequence_at-key}
use Rattle.translation_pages.specs.TranslationPage.{entry_at}
use Rattle.translation_pages.specs.Entry.{entry_in, entry_of}
use Rattle.image_check.specs.Stale.{is_stale, same_row, stale_sectors}
use Rattle.image_laws.specs.Power.{LosesPower, IsPageSince}
use Rattle.image_laws.proofs.PowerLemmas.{since, stored_stays}
use Rattle.lost_sectors.specs.Lost.{IsLost, is_lost, lost_sectors, newest_sequence}
use Rattle.lost_sectors.specs.Laws.{Damages, DamageLaw, IsSince, KeepsSince, KeepsAfterLossLaw, NamesLaw, NamesOlder, NoneToldLaw, OneMoreDamageLaw, PageStays, SameLaw, StandsAsIn, StepLaw, UndamagedLaw, UnsoundLaw}
use Rattle.lost_sectors.proofs.LostLemmas.{lost, newest_sequence_at, newest_sequence_is, newest_sequence_none, none_is, same_of}

-- ---- a key stays, or is since

stands : (image : Image) (key : Key) → StandsAsIn image image key
stands image key = record { newest_same = refl; body_same = λ row is. refl }

pub same : SameLaw
same mark image = record { each = λ key. inl (stands image key) }

-- a newest page whose record was there before has its sequence
kept_sequence : (old new : Image) (key : Key) (s : ℕ) → newest (marks new) key ≡ newest (marks old) key
    → ((row : ℕ) (x : Record) → newest (marks new) key ≡ Some row → get_or (marks new) row None ≡ Some x → get_or (marks old) row None ≡ Some x)
    → newest_sequence old key ≡ Some s → newest_sequence new key ≡ Some s
kept_sequence old new key s is records at = by_row (newest (marks new) key) refl
  where
    by_row : (at_new : Option ℕ) → newest (marks new) key ≡ at_new → newest_sequence new key ≡ Some s
    by_row None none = absurd (none_is (newest_sequence_none old key (sym is ∙ none)) at)
    by_row (Some row) some =
        let found = newest-record (marks new) key row some in
        let before : get_or (marks old) row None ≡ Some found.0 = records row found.0 some found.1 in
        let old_is : newest_sequence old key ≡ Some found.0.sequence = newest_sequence_is old key row found.0 (sym is ∙ some) before in
        newest_sequence_is new key row found.0 some found.1 ∙ (sym old_is ∙ at)

kept_step : (g : Geometry) (mark : ℕ) (old mid new : Image) → KeepsSince mark old mid → Keeps g mid new → KeepsSince mark old new
kept_step g mark old mid new since keeps = record {
  each = λ key. elim (since.each key) [
    | inl stood ↦ (let stood : StandsAsIn old mid key = stood in inl (record {
      newest_same = keeps.newest_same key ∙ stood.newest_same;
      body_same = λ row is. keeps.bodies key row (stood.newest_same ∙ is) ∙ stood.body_same row is;
    }))
    | inr late ↦ inr (late.0, kept_sequence mid new key late.0 (keeps.newest_same key) (λ row x some. keeps.records row x) late.1, late.2)
  ];
}

written_step : (g : Geometry) (mark : ℕ) (old mid new : Image) (r : Record) (row : ℕ) (body : List ℕ) → KeepsSince mark old mid → mark ≤ r.sequence → Writes g r row body mid new → KeepsSince mark old new
written_step g mark old mid new r row body since late writes = record {
  each = λ key. elim (cases_key (key_of r) key) [
    | inl its ↦ inr (r.sequence, newest_sequence_is new key row r (ap (newest (marks new)) (sym its) ∙ writes.newest_now) writes.record_here, late)
    | inr other ↦ elim (since.each key) [
      | inl stood ↦ (let stood : StandsAsIn old mid key = stood in inl (record {
        newest_same = writes.newest_others key other ∙ stood.newest_same;
        body_same = λ q is. writes.bodies key q other (stood.newest_same ∙ is) ∙ stood.body_same q is;
      }))
      | inr then ↦ inr (then.0, kept_sequence mid new key then.0 (writes.newest_others key other) (λ q x some has. writes.records q x (away key other q x some has) has) then.1, then.2)
    ]
  ];
}
  where
    away : (key : Key) → key_of r ≢ key → (q : ℕ) (x : Record) → newest (marks new) key ≡ Some q → get_or (marks new) q None ≡ Some x → q ≢ row
    away key other q x some has here =
        let found = newest-record (marks new) key q some in
        let one : found.0 ≡ r = same_of found.1 (ap (λ k. get_or (marks new) k None) here ∙ writes.record_here) in
        other (ap key_of (sym one) ∙ found.2)

pub step : StepLaw
step g mark old mid new since h = elim h [
  | inl keeps ↦ kept_step g mark old mid new since keeps
  | inr w ↦ written_step g mark old mid new w.0 w.1 w.2 since w.3 w.4
]

-- ---- none is told

fresh_entry : (g : Geometry) (image : Image) (n : ℕ) → is_stale g image n ≡ false → entry_of g image n ≡ newest (marks image) (Sector n)
unfolding is_stale
fresh_entry g image n fresh = same_is (entry_of g image n) (newest (marks image) (Sector n)) (not-false (same_row (entry_of g image n) (newest (marks image) (Sector n))) fresh)
  where
    same_is : (a b : Option ℕ) → same_row a b ≡ true → a ≡ b
    same_is None None e = refl
    same_is None (Some b) e = absurd (cc)
    same_is (Some a) None e = absurd (cc)
    same_is (Some a) (Some b) e = ap Some (eqb-true a b e)

-- where the translation page stands, so does its entry
entry_stands : (g : Geometry) (old new : Image) (n : ℕ) → StandsAsIn old new (Translation (n / entries g)) → entry_of g new n ≡ entry_of g old n
unfolding entry_of
entry_stands g old new n stood =
    ap (entry_in new (n % entries g)) stood.newest_same ∙ by_row (newest (marks old) (Translation (n / entries g))) refl
  where
    by_row : (at : Option ℕ) → newest (marks old) (Translation (n / entries g)) ≡ at → entry_in new (n % entries g) at ≡ entry_in old (n % entries g) at
    by_row None none = refl
    by_row (Some row) is = ap (λ b. entry_at b (n % entries g)) (stood.body_same row is)

none_told : (g : Geometry) (mark : ℕ) (old new : Image) (n : ℕ) → is_stale g old n ≡ false → KeepsSince mark old new → ¬ IsLost g new mark n
none_told g mark old new n fresh since told = elim (since.each (Translation (n / entries g))) [
  | inr late ↦ (let same : late.0 ≡ told.sequence = same_of late.1 told.at in omega (arith, late.2, told.marked, same))
  | inl page ↦ elim (since.each (Sector n)) [
    | inr late ↦ (let less = told.older late.0 late.1 in omega (arith, late.2, told.marked, less))
    | inl stood ↦ (let stood : StandsAsIn old new (Sector n) = stood in
        told.away (stood.newest_same ∙ (sym (fresh_entry g old n fresh) ∙ (sym (entry_stands g old new n page) ∙ told.named))))
  ]
]

-- a filter passes nothing where another one does, and passes all that it does
pub filter_none : (p q : ℕ → Bool) (a n : ℕ) → filter p (range_with_len a n) ≡ [] → ((k : ℕ) → p k ≡ false → q k ≡ false) → filter q (range_with_len a n) ≡ []
filter_none p q a zero e h = refl
filter_none p q a (suc n) e h = by_test (p a) refl (λ rest. filter_none p q (a + 1) n rest h)
  where
    by_test : (b : Bool) → p a ≡ b → (filter p (range_with_len (a + 1) n) ≡ [] → filter q (range_with_len (a + 1) n) ≡ []) → filter q (range_with_len a (suc n)) ≡ []
    by_test true is more = absurd (let clash : a ∷ filter p (range_with_len (a + 1) n) ≡ [] = sym (cond-true (p a) (a ∷ filter p (range_with_len (a + 1) n)) (filter p (range_with_len (a + 1) n)) is) ∙ e in cc)
    by_test false is more =
        let rest : filter p (range_with_len (a + 1) n) ≡ [] = sym (cond-false (p a) (a ∷ filter p (range_with_len (a + 1) n)) (filter p (range_with_len (a + 1) n)) is) ∙ e in
        cond-false (q a) (a ∷ filter q (range_with_len (a + 1) n)) (filter q (range_with_len (a + 1) n)) (h a is) ∙ more rest

pub nothing : NoneToldLaw
unfolding lost_sectors stale_sectors
nothing g mark flushed new none since = filter_none (is_stale g flushed) (is_lost g new mark) 0 g.sectors none
    (λ n fresh. false_from_ne_true (is_lost g new mark n) (λ told. none_told g mark flushed new n fresh since ((lost g new mark n).0 told)))

-- ---- a loss of power

-- a key without a newest page had none
never_found : (g : Geometry) (stored left found : Image) (key : Key) → LosesPower g stored left found → newest (marks found) key ≡ None → newest (marks stored) key ≡ None
never_found g stored left found key loses none = by_row (newest (marks stored) key) refl
  where
    by_row : (at : Option ℕ) → newest (marks stored) key ≡ at → newest (marks stored) key ≡ None
    by_row None is = is
    by_row (Some q) is = (let there = stored_stays g stored left found key q loses is in absurd (none_is none there.1))

kept_found : (g : Geometry) (stored left found : Image) (key : Key) (row : ℕ) → LosesPower g stored left found → newest (marks stored) key ≡ Some row → slice_get found row ≡ slice_get left row → slice_get found row ≡ slice_get stored row
kept_found g stored left found key row loses has same =
    let its = newest-record (marks stored) key row has in
    same ∙ loses.grows.kept row its.0 its.1

none_found : (g : Geometry) (mark : ℕ) (stored left found : Image) (key : Key) → LosesPower g stored left found → newest (marks found) key ≡ None → StandsAsIn stored found key
none_found g mark stored left found key loses none =
    let never : newest (marks stored) key ≡ None = never_found g stored left found key loses none in
    record { newest_same = none ∙ sym never; body_same = λ row is. absurd (none_is never is) }

some_found : (g : Geometry) (mark : ℕ) (stored left found : Image) (key : Key) (row : ℕ) → LosesPower g stored left found → ((k : Key) (q : ℕ) (its : IsPageSince stored left k q) → mark ≤ its.its.sequence) → newest (marks found) key ≡ Some row
    → StandsAsIn stored found key ⊎ IsSince mark found key
some_found g mark stored left found key row loses late is =
    let which = since g stored left found key row loses is in
    elim which.1 [
      | inl same ↦ inl (record {
        newest_same = is ∙ sym same;
        body_same = λ q has. subst (λ r. body_at found r ≡ body_at stored r) (same_of same has) (body_same found stored row (kept_found g stored left found key row loses same which.0));
      })
      | inr gone ↦
          let its = newest-record (marks found) key row is in
          let there : get_or (marks left) row None ≡ Some its.0 = sym (mark-same found left row which.0) ∙ its.1 in
          inr (its.0.sequence, newest_sequence_is found key row its.0 is its.1, late key row (record { none = gone; its = its.0; has = there; of = its.2 }))
    ]

pub loss : KeepsAfterLossLaw
loss g mark stored left found loses late = record { each = λ key. by_row key (newest (marks found) key) refl }
  where
    by_row : (key : Key) (at : Option ℕ) → newest (marks found) key ≡ at → StandsAsIn stored found key ⊎ IsSince mark found key
    by_row key None none = inl (none_found g mark stored left found key loses none)
    by_row key (Some row) is = some_found g mark stored left found key row loses late is

-- ---- what is told

unsound_other : (image : Image) (key : Key) (row : ℕ) → IsUnsoundAt image row → newest (marks image) key ≢ Some row
unsound_other image key row none is =
    let its = newest-record (marks image) key row is in
    none_is none its.1

pub unsound : UnsoundLaw
unsound g image mark n row t named none at below older = record {
  row = row;
  named = named;
  away = unsound_other image (Sector n) row none;
  sequence = t;
  at = at;
  marked = below;
  older = older;
}

-- the newest page of a key that has a sequence
record HasSequence (image : Image) (key : Key) (s : ℕ) : Type 0 where
  row : ℕ
  its : Record
  newest_is : newest (marks image) key ≡ Some row
  has : get_or (marks image) row None ≡ Some its
  of : key_of its ≡ key
  sequence_is : its.sequence ≡ s

has_sequence : (image : Image) (key : Key) (s : ℕ) → newest_sequence image key ≡ Some s → HasSequence image key s
has_sequence image key s at = by_row (newest (marks image) key) refl
  where
    by_row : (there : Option ℕ) → newest (marks image) key ≡ there → HasSequence image key s
    by_row None none = absurd (none_is (newest_sequence_none image key none) at)
    by_row (Some row) is =
        let found = newest-record (marks image) key row is in
        record { row = row; its = found.0; newest_is = is; has = found.1; of = found.2; sequence_is = same_of (newest_sequence_is image key row found.0 is found.1) at }

pub names : NamesLaw
names g r row body old new n writes of below = record {
  older = λ q s t is named at now. (
      let its : HasSequence new (Sector n) s = has_sequence new (Sector n) s at in
      let apart : its.row ≢ row = λ here. other_key (sym its.of ∙ (ap key_of (same_of its.has (ap (λ k. get_or (marks new) k None) here ∙ writes.record_here)) ∙ of)) in
      let before : get_or (marks old) its.row None ≡ Some its.its = writes.records its.row its.its apart its.has in
      let less : its.its.sequence < r.sequence = below.below its.row its.its before in
      let page : newest_sequence new (Translation (n / entries g)) ≡ Some r.sequence = newest_sequence_is new (Translation (n / entries g)) row r (ap (newest (marks new)) (sym of) ∙ writes.newest_now) writes.record_here in
      let same : r.sequence ≡ t = same_of page now in
      omega (arith, its.sequence_is, less, same));
}
  where
    other_key : Sector n ≡ Translation (n / entries g) → ⊥
    other_key e = cc

-- an entry that names a row stands in a page
page_there : (g : Geometry) (image : Image) (n row : ℕ) → entry_of g image n ≡ Some row → (at : ℕ) × (newest (marks image) (Translation (n / entries g)) ≡ Some at)
unfolding entry_of
page_there g image n row named = by_row (newest (marks image) (Translation (n / entries g))) refl
  where
    by_row : (there : Option ℕ) → newest (marks image) (Translation (n / entries g)) ≡ there → (at : ℕ) × (newest (marks image) (Translation (n / entries g)) ≡ Some at)
    by_row None none = absurd (none_is (ap (entry_in image (n % entries g)) none) named)
    by_row (Some at) is = (at, is)

forgets : (old new : Image) → Damages old new → Forgets (marks old) (marks new)
forgets old new damage = record {
  at = λ q. elim (damage.rows q) [
    | inl same ↦ inl (mark-same new old q same)
    | inr gone ↦ inr gone
  ];
}

-- ---- damage, one page after another

pub undamaged : UndamagedLaw
undamaged image = record { size = refl; rows = λ q. inl refl }

-- the row itself, and any other one
left_unsound : (image : Image) (row : ℕ) (left : Page) → record_of left ≡ None → IsUnsoundAt (slice_set image row left) row
left_unsound image row left none =
    let now : marks (slice_set image row left) ≡ slice_set (marks image) row None = marks-set image row left ∙ ap (λ m. slice_set (marks image) row m) none in
    ap (λ ms. get_or ms row None) now ∙ (elim (cases_lt row (length (marks image))) [
      | inl l ↦ get_or-set_same (marks image) row None None l
      | inr le ↦ get_or_past (slice_set (marks image) row None) row None (omega (arith, le, length-set (marks image) row None))
    ])

pub one_more_damage : OneMoreDamageLaw
one_more_damage old new row left damage none = record {
  size = length-set new row left ∙ damage.size;
  rows = λ q. elim (cases_eq q row) [
    | inl same ↦ inr (subst (λ k. IsUnsoundAt (slice_set new row left) k) (sym same) (left_unsound new row left none))
    | inr other ↦ elim (damage.rows q) [
      | inl same ↦ inl (slice_get-set_other new row q left other ∙ same)
      | inr gone ↦ inr (ap (λ ms. get_or ms q None) (marks-set new row left) ∙ (get_or-set_other (marks new) row q (record_of left) None other ∙ gone))
    ]
  ];
}

-- a newest page that is as it was is the newest
spared : (g : Geometry) (old new : Image) (key : Key) → HasOneArray g old → Damages old new → ((row : ℕ) → newest (marks old) key ≡ Some row → slice_get new row ≡ slice_get old row) → StandsAsIn old new key
spared g old new key one damage kept = record {
  newest_same = newest_forgets (marks old) (marks new) key one.distinct (forgets old new damage) (λ row is. mark-same new old row (kept row is));
  body_same = λ row is. body_same new old row (kept row is);
}

-- the translation page is spared
record Spared (g : Geometry) (mark : ℕ) (old new : Image) (n row : ℕ) : Type 0 where
  named : entry_of g new n ≡ Some row
  t : ℕ
  at_old : newest_sequence old (Translation (n / entries g)) ≡ Some t
  at_new : newest_sequence new (Translation (n / entries g)) ≡ Some t
  marked : t < mark

page_spared : (g : Geometry) (mark : ℕ) (old new : Image) (n row : ℕ) → HasOneArray g old → AreBelow (marks old) mark → is_stale g old n ≡ false → Damages old new → PageStays g old new n → newest (marks old) (Sector n) ≡ Some row → Spared g mark old new n row
page_spared g mark old new n row one below fresh damage stays is =
    let stood : StandsAsIn old new (Translation (n / entries g)) = spared g old new (Translation (n / entries g)) one damage stays in
    let was : entry_of g old n ≡ Some row = fresh_entry g old n fresh ∙ is in
    let page = page_there g old n row was in
    let its = newest-record (marks old) (Translation (n / entries g)) page.0 page.1 in
    let there : get_or (marks new) page.0 None ≡ Some its.0 = mark-same new old page.0 (stays page.0 page.1) ∙ its.1 in
    record {
      named = entry_stands g old new n stood ∙ was;
      t = its.0.sequence;
      at_old = newest_sequence_is old (Translation (n / entries g)) page.0 its.0 page.1 its.1;
      at_new = newest_sequence_is new (Translation (n / entries g)) page.0 its.0 (stood.newest_same ∙ page.1) there;
      marked = below.below page.0 its.0 its.1;
    }

-- a newer page than one that was hit there is not
hit_older : (g : Geometry) (old new : Image) (n row t : ℕ) → NamesOlder g old n → Damages old new → newest (marks old) (Sector n) ≡ Some row → entry_of g old n ≡ Some row → newest_sequence old (Translation (n / entries g)) ≡ Some t
    → IsUnsoundAt new row → (s : ℕ) → newest_sequence new (Sector n) ≡ Some s → s < t
hit_older g old new n row t names damage is was at gone s has =
    let now : HasSequence new (Sector n) s = has_sequence new (Sector n) s has in
    let top : IsNewest (marks old) (Sector n) row = newest-is (marks old) (Sector n) row is in
    let apart : now.row ≢ row = λ same. none_is gone (ap (λ k. get_or (marks new) k None) (sym same) ∙ now.has) in
    let before : get_or (marks old) now.row None ≡ Some now.its = elim (damage.rows now.row) [
      | inl same ↦ sym (mark-same new old now.row same) ∙ now.has
      | inr lost_it ↦ absurd (none_is lost_it now.has)
    ] in
    let there : sequence_at (marks old) (Sector n) now.row ≡ Some now.its.sequence = subst (λ k. sequence_at (marks old) k now.row ≡ Some now.its.sequence) now.of (sequence_at-key (marks old) now.row now.its before) in
    let less : now.its.sequence < top.value = top.others now.row now.its.sequence apart there in
    let above : top.value < t = names.older row top.value t is was (newest_sequence_at old (Sector n) row is ∙ top.here) at in
    omega (arith, now.sequence_is, less, above)

pub damage : DamageLaw
damage g mark old new n row one below fresh names hurt stays is =
    let page : Spared g mark old new n row = page_spared g mark old new n row one below fresh hurt stays is in
    let was : entry_of g old n ≡ Some row = fresh_entry g old n fresh ∙ is in (
      λ (told : IsLost g new mark n). elim (hurt.rows row) [
        | inr gone ↦ gone
        | inl same ↦ (let stood : StandsAsIn old new (Sector n) = spared g old new (Sector n) one hurt (λ q has. subst (λ k. slice_get new k ≡ slice_get old k) (same_of is has) same) in
            absurd (told.away (stood.newest_same ∙ (is ∙ (sym page.named ∙ told.named)))))
      ],
      λ (gone : IsUnsoundAt new row). unsound g new mark n row page.t page.named gone page.at_new page.marked (hit_older g old new n row page.t names hurt is was page.at_old gone),
    )
