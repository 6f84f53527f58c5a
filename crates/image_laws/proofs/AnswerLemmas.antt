-- Of an image and a certificate there is one answer, and of an image one reason not to mount it.
use Rattle.std.proofs.Common.{◌≡◌, ℕ, ◌<◌, ◌⊎◌, List, Option, Some, None, inl, inr, refl, sym, ap, subst, ◌∙◌, arith, length, length-append, ◌+◌}
use Rattle.std.proofs.lemmas.Bool.{cases_order, cases_lt}
use Rattle.std.proofs.lemmas.Option.{slice_get_within}
use Rattle.page_layout.specs.declared.record.Record.{Record}
use Rattle.page_layout.specs.declared.record.Key.{Key}
use Rattle.page_layout.specs.declared.record.Key.TheVariants.{Table}
use Rattle.page_layout.specs.declared.geometry.Geometry.{Geometry}
use Rattle.page_layout.specs.Page.{Image}
use Rattle.page_layout.specs.Newest.{newest, sequence_at}
use Rattle.page_layout.specs.Array.{marks}
use Rattle.page_layout.proofs.NewestLemmas.{newest-record, sequence_at-key}
use Rattle.certificate.specs.declared.block_state.BlockState.{BlockState}
use Rattle.certificate.specs.Claim.{Claim}
use Rattle.image_check.specs.declared.refusal.Refusal.{Refusal}
use Rattle.image_check.specs.declared.refusal.Refusal.TheVariants as refusals
use Rattle.image_check.specs.Accepted.{Acceptance}
use Rattle.image_check.specs.Survey.{IsFirstOutside}
use Rattle.image_check.specs.Refused.{Part, Numbers, Sequences, Tables, Next, Fresh, order, part_of, RefusalSays, Holds, IsJudgement}
use Rattle.image_check.specs.Refused.{IsUnformatted, IsTableDamaged, IsFirstDirectoryWrong, IsNoSuchRecord, IsNotNewest, IsWrongBlock}
use Rattle.mount.specs.Mounted.{IsAfter, IsUnmountable, ShowsRefusal}
use Rattle.mount.proofs.RefuseLemmas.{holds}
use Rattle.image_laws.specs.Refusals.{OneRefusalLaw, OneAnswerLaw, OneReasonLaw, TooStaleLaw, LengthLaw, ReadsNoMoreLaw, StopLaw, RefusalNamesLaw, MountingLaw, IsNamedOf}
use Rattle.image_laws.proofs.RefusalLemmas.{same_place, same_part, one_pair}

-- ---- each first is one

first_row : (g : Geometry) (marks : List (Option Record)) (a b : ℕ) → IsFirstOutside g marks a → IsFirstOutside g marks b → a ≡ b
first_row g marks a b p q = elim (cases_order a b) [
  | inl same ↦ same
  | inr (inl below) ↦ absurd (p.at.outside (q.before a p.at.found below p.at.here))
  | inr (inr above) ↦ absurd (q.at.outside (p.before b q.at.found above q.at.here))
]

pub none_newest : (marks : List (Option Record)) (key : Key) (found : Option ℕ) → newest marks key ≡ found → ((row : ℕ) → sequence_at marks key row ≡ None) → found ≡ None
none_newest marks key None is h = refl
none_newest marks key (Some row) is h =
    let here = newest-record marks key row is in
    let some = sequence_at-key marks row here.0 here.1 in
    let there : sequence_at marks key row ≡ Some here.0.sequence = ap (λ (k : Key). sequence_at marks k row) (sym here.2) ∙ some in
    let clash : None ≡ Some here.0.sequence = sym (h row) ∙ there in
    absurd cc

unformatted_damaged : (g : Geometry) (image : Image) (u : ℕ) → IsUnformatted g image → IsTableDamaged g image u → ⊥
unformatted_damaged g image u p q = q.there p.page p.within (none_newest (marks image) (Table p.page) (newest (marks image) (Table p.page)) refl p.missing)

first_damaged : (g : Geometry) (image : Image) (u v : ℕ) → IsTableDamaged g image u → IsTableDamaged g image v → u ≡ v
first_damaged g image u v p q = elim (cases_order u v) [
  | inl same ↦ same
  | inr (inl below) ↦ absurd (p.wrong (q.before u below))
  | inr (inr above) ↦ absurd (q.wrong (p.before v above))
]

first_directory : (g : Geometry) (image : Image) (rows : List (Option ℕ)) (i j : ℕ) → IsFirstDirectoryWrong g image rows i → IsFirstDirectoryWrong g image rows j → i ≡ j
first_directory g image rows i j p q = elim (cases_order i j) [
  | inl same ↦ same
  | inr (inl below) ↦ absurd (q.before i below p.wrong)
  | inr (inr above) ↦ absurd (p.before j above q.wrong)
]

missing_before : (g : Geometry) (image : Image) (rows : List (Option ℕ)) (n row m other : ℕ) → n < m → IsNoSuchRecord g image rows n row → IsNoSuchRecord g image rows m other → ⊥
missing_before g image rows n row m other below p q =
    let page = q.before.page n row below p.claimed in
    let clash : None ≡ Some page.sequence = sym p.missing ∙ page.here in
    cc

first_missing : (g : Geometry) (image : Image) (rows : List (Option ℕ)) (n row m other : ℕ) → IsNoSuchRecord g image rows n row → IsNoSuchRecord g image rows m other
    → refusals.NoSuchRecord n row ≡ refusals.NoSuchRecord m other
first_missing g image rows n row m other p q = elim (cases_order n m) [
  | inl same ↦ (let one = p.claimed in let two = q.claimed in cc)
  | inr (inl below) ↦ absurd (missing_before g image rows n row m other below p q)
  | inr (inr above) ↦ absurd (missing_before g image rows m other n row above q p)
]

missing_elsewhere : (g : Geometry) (image : Image) (rows : List (Option ℕ)) (n row m other : ℕ) → IsNoSuchRecord g image rows n row → IsNotNewest g image rows m other → ⊥
missing_elsewhere g image rows n row m other p q =
    let page = q.there.page n row (slice_get_within rows n (Some row) p.claimed) p.claimed in
    let clash : None ≡ Some page.sequence = sym p.missing ∙ page.here in
    cc

first_elsewhere : (g : Geometry) (image : Image) (rows : List (Option ℕ)) (n row m other : ℕ) → IsNotNewest g image rows n row → IsNotNewest g image rows m other
    → refusals.NotNewest n row ≡ refusals.NotNewest m other
first_elsewhere g image rows n row m other p q = elim (cases_order n m) [
  | inl same ↦ (let one = p.newest_is in let two = q.newest_is in cc)
  | inr (inl below) ↦ absurd (p.claimed (q.before n below ∙ ap Some p.newest_is))
  | inr (inr above) ↦ absurd (q.claimed (p.before m above ∙ ap Some q.newest_is))
]

wrong_before : (g : Geometry) (states : List BlockState) (a b : ℕ) (P : ℕ → BlockState → Type 0) → a < b → IsWrongBlock g states a P → IsWrongBlock g states b P → ⊥
wrong_before g states a b P below p q =
    let right = q.before.state a below in
    let at = p.at in
    let there = right.1 in
    let same : right.0 ≡ p.state = cc in
    p.wrong (subst (P a) same right.2)

first_block : (g : Geometry) (states : List BlockState) (a b : ℕ) (P : ℕ → BlockState → Type 0) → IsWrongBlock g states a P → IsWrongBlock g states b P → a ≡ b
first_block g states a b P p q = elim (cases_order a b) [
  | inl same ↦ same
  | inr (inl below) ↦ absurd (wrong_before g states a b P below p q)
  | inr (inr above) ↦ absurd (wrong_before g states b a P above q p)
]

pair_is_one : (a b c d : ℕ) → (a ≡ c) × (b ≡ d) → refusals.SequenceRepeated a b ≡ refusals.SequenceRepeated c d
pair_is_one a b c d h = let one = h.0 in let two = h.1 in cc

-- ---- one refusal

same_says : (g : Geometry) (capacity : ℕ) (image : Image) (c : Claim) (part : Part) (r s : Refusal) → part_of r ≡ Some part → part_of s ≡ Some part
    → RefusalSays g capacity image c r → RefusalSays g capacity image c s → r ≡ s
same_says g capacity image c part refusals.GeometryDiffers refusals.GeometryDiffers k l a b = refl
same_says g capacity image c part (refusals.NumberRange x) (refusals.NumberRange y) k l a b = ap refusals.NumberRange (first_row g (marks image) x y a b)
same_says g capacity image c part (refusals.SequenceRepeated w x) (refusals.SequenceRepeated y z) k l a b = pair_is_one w x y z (one_pair (marks image) w x y z a b)
same_says g capacity image c part refusals.NotFormatted refusals.NotFormatted k l a b = refl
same_says g capacity image c part refusals.NotFormatted (refusals.TableDamaged u) k l a b = absurd (unformatted_damaged g image u a b)
same_says g capacity image c part (refusals.TableDamaged u) refusals.NotFormatted k l a b = absurd (unformatted_damaged g image u b a)
same_says g capacity image c part (refusals.TableDamaged u) (refusals.TableDamaged v) k l a b = ap refusals.TableDamaged (first_damaged g image u v a b)
same_says g capacity image c part (refusals.DirectoryWrong i) (refusals.DirectoryWrong j) k l a b = ap refusals.DirectoryWrong (first_directory g image c.directory i j a b)
same_says g capacity image c part (refusals.NoSuchRecord n row) (refusals.NoSuchRecord m other) k l a b = first_missing g image c.sectors n row m other a b
same_says g capacity image c part (refusals.NoSuchRecord n row) (refusals.NotNewest m other) k l a b = absurd (missing_elsewhere g image c.sectors n row m other a b)
same_says g capacity image c part (refusals.NotNewest n row) (refusals.NoSuchRecord m other) k l a b = absurd (missing_elsewhere g image c.sectors m other n row b a)
same_says g capacity image c part (refusals.NotNewest n row) (refusals.NotNewest m other) k l a b = first_elsewhere g image c.sectors n row m other a b
same_says g capacity image c part (refusals.BadSetWrong x) (refusals.BadSetWrong y) k l a b = ap refusals.BadSetWrong (first_block g c.blocks x y _ a b)
same_says g capacity image c part (refusals.BlockState x) (refusals.BlockState y) k l a b = ap refusals.BlockState (first_block g c.blocks x y _ a b)
same_says g capacity image c part (refusals.LiveWrong x) (refusals.LiveWrong y) k l a b = ap refusals.LiveWrong (first_block g c.blocks x y _ a b)
same_says g capacity image c part (refusals.WearWrong x) (refusals.WearWrong y) k l a b = ap refusals.WearWrong (first_block g c.blocks x y _ a b)
same_says g capacity image c part refusals.NextSequence refusals.NextSequence k l a b = refl
same_says g capacity image c part (refusals.TooStale n most) (refusals.TooStale m other) k l a b = (let w = a.0 in let x = a.1 in let y = b.0 in let z = b.1 in cc)
same_says g capacity image c part _ _ k l a b = absurd cc

pub one_refusal : OneRefusalLaw
one_refusal g capacity image c r s a b =
    same_says g capacity image c a.part r s a.wrong.part_is (b.wrong.part_is ∙ ap Some (sym (same_part g capacity image c r s a b))) a.wrong.says b.wrong.says

-- ---- one answer

abbrev acceptance : Claim → List ℕ → Acceptance
acceptance claim stale = record { claim = claim; stale = stale }

same_acceptance : (a b : Acceptance) → a.claim ≡ b.claim → a.stale ≡ b.stale → a ≡ b
same_acceptance a b claim stale = ap (λ (c : Claim). acceptance c a.stale) claim ∙ ap (acceptance b.claim) stale

pub one_answer : OneAnswerLaw
one_answer g capacity image c a is = (
  λ r w. w.wrong.fails (holds g capacity image c w.part is.agrees),
  λ b other. same_acceptance a b (is.claim_is ∙ sym other.claim_is) (is.stale_is ∙ sym other.stale_is),
)

-- ---- one reason

-- a refusal of which a mount says something names a part
named : (g : Geometry) (capacity : ℕ) (image : Image) (r : Refusal) → ShowsRefusal g capacity image r → (part : Part) × (part_of r ≡ Some part)
named g capacity image (refusals.NumberRange row) h = (Numbers, refl)
named g capacity image (refusals.SequenceRepeated a b) h = (Sequences, refl)
named g capacity image refusals.NotFormatted h = (Tables, refl)
named g capacity image (refusals.TableDamaged u) h = (Tables, refl)
named g capacity image refusals.NextSequence h = (Next, refl)
named g capacity image (refusals.TooStale stale most) h = (Fresh, refl)
named g capacity image _ h = absurd h

-- two that name one part are one
same_shows : (g : Geometry) (capacity : ℕ) (image : Image) (part : Part) (r s : Refusal) → part_of r ≡ Some part → part_of s ≡ Some part
    → ShowsRefusal g capacity image r → ShowsRefusal g capacity image s → r ≡ s
same_shows g capacity image part (refusals.NumberRange x) (refusals.NumberRange y) k l a b = ap refusals.NumberRange (first_row g (marks image) x y a b)
same_shows g capacity image part (refusals.SequenceRepeated w x) (refusals.SequenceRepeated y z) k l a b = pair_is_one w x y z (one_pair (marks image) w x y z a b)
same_shows g capacity image part refusals.NotFormatted refusals.NotFormatted k l a b = refl
same_shows g capacity image part refusals.NotFormatted (refusals.TableDamaged u) k l a b = absurd (unformatted_damaged g image u a b)
same_shows g capacity image part (refusals.TableDamaged u) refusals.NotFormatted k l a b = absurd (unformatted_damaged g image u b a)
same_shows g capacity image part (refusals.TableDamaged u) (refusals.TableDamaged v) k l a b = ap refusals.TableDamaged (first_damaged g image u v a b)
same_shows g capacity image part refusals.NextSequence refusals.NextSequence k l a b = refl
same_shows g capacity image part (refusals.TooStale n most) (refusals.TooStale m other) k l a b = (let w = a.0 in let x = a.1 in let y = b.0 in let z = b.1 in cc)
same_shows g capacity image part refusals.GeometryDiffers s k l a b = absurd a
same_shows g capacity image part (refusals.DirectoryWrong i) s k l a b = absurd a
same_shows g capacity image part (refusals.NoSuchRecord n row) s k l a b = absurd a
same_shows g capacity image part (refusals.NotNewest n row) s k l a b = absurd a
same_shows g capacity image part (refusals.BadSetWrong x) s k l a b = absurd a
same_shows g capacity image part (refusals.BlockState x) s k l a b = absurd a
same_shows g capacity image part (refusals.LiveWrong x) s k l a b = absurd a
same_shows g capacity image part (refusals.WearWrong x) s k l a b = absurd a
same_shows g capacity image part refusals.Source s k l a b = absurd a
same_shows g capacity image part refusals.OutOfMemory s k l a b = absurd a
same_shows g capacity image part refusals.WrongLength s k l a b = absurd a
same_shows g capacity image part _ _ k l a b = absurd cc

-- where another one names a later part, it comes late itself: the part that it names would hold else
late : (g : Geometry) (capacity : ℕ) (image : Image) (p q : Part) (r s : Refusal) → part_of r ≡ Some p → part_of s ≡ Some q → order p < order q
    → ShowsRefusal g capacity image r → IsUnmountable g capacity image s → IsAfter Tables r
late g capacity image p q (refusals.NumberRange row) s k l less a v =
    let is : p ≡ Numbers = cc in
    absurd (a.at.outside ((v.numbers (q, l, subst (λ (x : Part). order x < order q) is less)).in_range row a.at.found a.at.here))
late g capacity image p q (refusals.SequenceRepeated x y) s k l less a v =
    let is : p ≡ Sequences = cc in
    let distinct = v.sequences (q, l, subst (λ (x : Part). order x < order q) is less) in
    let same : x ≡ y = distinct.apart x y a.pair.first a.pair.second a.pair.at_first a.pair.at_second a.pair.same in
    absurd (omega (arith, a.pair.order))
late g capacity image p q refusals.NotFormatted s k l less a v =
    let is : p ≡ Tables = cc in
    let tables = v.tables (q, l, subst (λ (x : Part). order x < order q) is less) in
    let found = tables.formatted a.page a.within in
    let clash : None ≡ Some found.row = sym (none_newest (marks image) (Table a.page) (newest (marks image) (Table a.page)) refl a.missing) ∙ found.newest_is in
    absurd cc
late g capacity image p q (refusals.TableDamaged u) s k l less a v =
    let is : p ≡ Tables = cc in
    let tables = v.tables (q, l, subst (λ (x : Part). order x < order q) is less) in
    absurd (a.wrong (tables.formed u a.within))
late g capacity image p q refusals.NextSequence s k l less a v = (Next, refl, omega arith)
late g capacity image p q (refusals.TooStale stale most) s k l less a v = (Fresh, refl, omega arith)
late g capacity image p q _ s k l less a v = absurd a

later : (p q : Part) (r s : Refusal) → part_of r ≡ Some p → part_of s ≡ Some q → order p < order q → IsAfter Tables r → IsAfter Tables s
later p q r s k l less after =
    let there = after.1 in
    let same : after.0 ≡ p = cc in
    let from : order Tables < order p = subst (λ (x : Part). order Tables < order x) same after.2 in
    (q, l, omega arith)

pub one_reason : OneReasonLaw
one_reason g capacity image r s a b =
    let p = named g capacity image r a.shows in
    let q = named g capacity image s b.shows in
    by_order p.0 q.0 p.1 q.1
  where
    by_order : (p q : Part) → part_of r ≡ Some p → part_of s ≡ Some q → (r ≡ s) ⊎ (IsAfter Tables r × IsAfter Tables s)
    by_order p q k l = elim (cases_order (order p) (order q)) [
      | inl same ↦ inl (same_shows g capacity image p r s k (l ∙ ap Some (sym (same_place p q same))) a.shows b.shows)
      | inr (inl below) ↦ (let first = late g capacity image p q r s k l below a.shows b in inr (first, later p q r s k l below first))
      | inr (inr above) ↦ (let first = late g capacity image q p s r l k above b.shows a in inr (later q p s r l k above first, first))
    ]

-- ---- what some refusals say

pub too_stale : TooStaleLaw
too_stale g capacity image c stale most (inl w) = elim (cases_lt most stale) [
  | inl less ↦ less
  | inr not ↦
      let part = w.wrong.part_is in
      let fresh : w.part ≡ Fresh = cc in
      let few = w.wrong.says.0 in
      let asked = w.wrong.says.1 in
      absurd (w.wrong.fails (subst (λ (p : Part). Holds g capacity image c p) (sym fresh) (omega arith)))
]
too_stale g capacity image c stale most (inr u) = let few = u.shows.1 in let more = u.shows.2 in omega arith

pub of_length : LengthLaw
of_length g capacity bytes c size (inl (inl source)) = cc
of_length g capacity bytes c size (inl (inr memory)) = cc
of_length g capacity bytes c size (inr (inl w)) = w.1 size
of_length g capacity bytes c size (inr (inr w)) = let part = w.wrong.part_is in cc

pub read_most : ReadsNoMoreLaw
read_most most before after h =
    let size : length before ≡ length h.bytes + length after = ap length h.read ∙ length-append h.bytes after in
    let few = h.few in
    omega arith

pub stops : StopLaw
stops r (inl is) = (ap part_of is, λ judged. subst IsJudgement is judged)
stops r (inr is) = (ap part_of is, λ judged. subst IsJudgement is judged)

-- ---- what is named

named_of : (g : Geometry) (capacity : ℕ) (image : Image) (c : Claim) (r : Refusal) → RefusalSays g capacity image c r → IsNamedOf g r
named_of g capacity image c (refusals.TableDamaged u) h = h.within
named_of g capacity image c (refusals.DirectoryWrong i) h = elim h.wrong [
  | inl w ↦ let below = w.0 in omega arith
  | inr w ↦ let below = w.1 in let is = w.2 in omega arith
]
named_of g capacity image c (refusals.NoSuchRecord n row) h = h.within
named_of g capacity image c (refusals.NotNewest n row) h = h.within
named_of g capacity image c (refusals.BadSetWrong b) h = h.within
named_of g capacity image c (refusals.BlockState b) h = h.within
named_of g capacity image c (refusals.LiveWrong b) h = h.within
named_of g capacity image c (refusals.WearWrong b) h = h.within
named_of g capacity image c _ h = tt

pub names : RefusalNamesLaw
names g capacity image c r w = named_of g capacity image c r w.wrong.says

pub of_mounting : MountingLaw
of_mounting (refusals.NumberRange row) h = inr (inl tt)
of_mounting (refusals.SequenceRepeated a b) h = inr (inl tt)
of_mounting refusals.NotFormatted h = inr (inl tt)
of_mounting (refusals.TableDamaged u) h = inr (inl tt)
of_mounting refusals.NextSequence h = inr (inr (inl refl))
of_mounting (refusals.TooStale stale most) h = inr (inr (inr refl))
of_mounting refusals.Source h = inl (inl refl)
of_mounting refusals.OutOfMemory h = inl (inr refl)
of_mounting _ h = absurd h
