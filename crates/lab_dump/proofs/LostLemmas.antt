-- Which sectors have lost a page, and that none has of a die that goes on as it should.
use Rattle.std.proofs.Common.{◌≡◌, ◌≢◌, ◌⊎◌, ◌↔◌, inl, inr, ℕ, ◌+◌, ◌<◌, ◌≤◌, le_refl, Bool, true, false, List, [], ◌∷◌, length, get_or, Option, Some, None, refl, sym, ap, subst, ◌∙◌, arith}
use Rattle.std.specs.Prelude.{slice_get, nat_lt, ◌&&◌, not, IsSome, is_some}
use Rattle.std.proofs.lemmas.Bool.{cases_eq, cases_lt}
use Rattle.std.proofs.lemmas.Bool.Decides.{nat_tests}
use Rattle.std.proofs.lemmas.Option.{slice_get-get_or, slice_get_within, same_Some}
use Rattle.page_layout.specs.declared.geometry.Geometry.{Geometry}
use Rattle.page_layout.specs.declared.record.Record.{Record}
use Rattle.page_layout.specs.declared.record.Key.TheVariants.{Sector}
use Rattle.page_layout.specs.declared.newest.Latest.{Latest}
use Rattle.page_layout.specs.declared.newest.Latest.TheVariants.{Never, Once, Tied}
use Rattle.page_layout.specs.Page.{Image}
use Rattle.page_layout.specs.Key.{key_of}
use Rattle.page_layout.specs.Greatest.{best}
use Rattle.page_layout.specs.Newest.{IsNewest, latest_below, newest, sequence_at}
use Rattle.page_layout.specs.OneArray.{AreBelow}
use Rattle.page_layout.specs.Array.{marks, HasOneArray}
use Rattle.page_layout.specs.Change.{Keeps, Writes, ProgramMeans}
use Rattle.page_layout.specs.Flash.{Flash, Operation, Program, Erase}
use Rattle.page_layout.proofs.KeyLemmas.{cases_key}
use Rattle.page_layout.proofs.GreatestLemmas.{Says, SaysNever, SaysOnce, SaysTied, best_says, greatest_unique}
use Rattle.page_layout.proofs.NewestLemmas.{IsOf, newest-is, newest-record, newest_some, sequence_at-is, sequence_at-key, sequence_at_past}
use Rattle.page_layout.proofs.ArrayLemmas.{length-marks}
use Rattle.page_layout.proofs.StepLemmas.{below_more}
use Rattle.page_layout.proofs.FlashLemmas.{geometry-Steps, program_means, erase_keeps}
use Rattle.certificate.specs.Claim.{Claim}
use Rattle.image_check.specs.Agrees.{Agrees}
use Rattle.lab_dump.specs.Lost.{IsWhereSaid, IsSectorSince, LeadsInOrder, is_there, is_lost_by_latest, said_row, has_lost_page, HasLostPageLaw, LongerLogLaw, NoneLostLaw, OneProgramLaw}

-- ---- the criterion

none_is : {o : Option ℕ} {s : ℕ} → o ≡ None → o ≡ Some s → ⊥
none_is a b = cc

same_of : {o : Option ℕ} {s t : ℕ} → o ≡ Some s → o ≡ Some t → s ≡ t
same_of a b = cc

true_false : true ≡ false → ⊥
true_false e = cc

-- past the last row no key has a sequence
past : (ms : List (Option Record)) (n q s : ℕ) → sequence_at ms (Sector n) q ≡ Some s → q < length ms
past ms n q s e = elim (cases_lt q (length ms)) [
  | inl l ↦ l
  | inr le ↦ absurd (none_is ((sequence_at_past ms (Sector n)).all q le) e)
]

never_all : (ms : List (Option Record)) (n : ℕ) → SaysNever (sequence_at ms (Sector n)) (length ms) → (q : ℕ) → sequence_at ms (Sector n) q ≡ None
never_all ms n h q = elim (cases_lt q (length ms)) [ inl l ↦ h.all q l | inr le ↦ (sequence_at_past ms (Sector n)).all q le ]

once_top : (ms : List (Option Record)) (n row s : ℕ) → SaysOnce (sequence_at ms (Sector n)) (length ms) row s → IsNewest ms (Sector n) row
once_top ms n row s h = record { value = s; here = h.here; others = λ q t ne at. h.others q t (past ms n q t at) ne at }

tied_none : (ms : List (Option Record)) (n a b t r : ℕ) → SaysTied (sequence_at ms (Sector n)) (length ms) a b t → IsNewest ms (Sector n) r → ⊥
tied_none ms n a b t r h top = elim (cases_eq a r) [
  | inl same ↦
      let apart : b ≢ r = λ e. (let order = h.order in omega arith) in
      let less : t < top.value = top.others b t apart h.at_second in
      let value : t ≡ top.value = same_of h.at_first (ap (sequence_at ms (Sector n)) same ∙ top.here) in
      omega arith
  | inr ne ↦
      let less : t < top.value = top.others a t ne h.at_first in
      let most : top.value ≤ t = h.all r top.value (past ms n r top.value top.here) top.here in
      omega arith
]

there_is : (said : Option ℕ) (row : ℕ) → is_there said row ≡ true → said ≡ Some row
there_is None row e = absurd (true_false (sym e))
there_is (Some r) row e = let same : r ≡ row = grind (arith, nat_tests, e) in ap Some same

is_there_here : (row : ℕ) → is_there (Some row) row ≡ true
is_there_here row = grind (arith, nat_tests)

late_is : (s next : ℕ) → nat_lt s next ≡ false → next ≤ s
late_is s next e = grind (arith, nat_tests, e)

late_from : (s next : ℕ) → next ≤ s → nat_lt s next ≡ false
late_from s next l = grind (arith, nat_tests, l)

not_and_false : (b : Bool) → (not b && false) ≡ false
not_and_false true = refl
not_and_false false = refl

-- one newest page that stands where it is said, or is late
kept_once : (ms : List (Option Record)) (n next row s : ℕ) (said : Option ℕ) (b c : Bool) → SaysOnce (sequence_at ms (Sector n)) (length ms) row s → is_there said row ≡ b → nat_lt s next ≡ c → (not b && c) ≡ false
    → IsWhereSaid ms n said ⊎ IsSectorSince ms n next
kept_once ms n next row s said true c h there late e = inl (subst (λ o. IsWhereSaid ms n o) (sym (there_is said row there)) (once_top ms n row s h))
kept_once ms n next row s said false true h there late e = absurd (true_false e)
kept_once ms n next row s said false false h there late e = inr (record { row = row; sequence = s; newest_is = once_top ms n row s h; at = h.here; late = late_is s next late })

said_once : (ms : List (Option Record)) (n next row s : ℕ) (said : Option ℕ) → SaysOnce (sequence_at ms (Sector n)) (length ms) row s → IsWhereSaid ms n said → (not (is_there said row) && nat_lt s next) ≡ false
said_once ms n next row s None h none = absurd (none_is (none row) h.here)
said_once ms n next row s (Some r) h top =
    let same : r ≡ row = greatest_unique (sequence_at ms (Sector n)) r row top (once_top ms n row s h) in
    let there : is_there (Some r) row ≡ true = ap (λ k. is_there (Some k) row) same ∙ is_there_here row in
    ap (λ b. not b && nat_lt s next) there

since_once : (ms : List (Option Record)) (n next row s : ℕ) (said : Option ℕ) → SaysOnce (sequence_at ms (Sector n)) (length ms) row s → IsSectorSince ms n next → (not (is_there said row) && nat_lt s next) ≡ false
since_once ms n next row s said h since =
    let same : since.row ≡ row = greatest_unique (sequence_at ms (Sector n)) since.row row since.newest_is (once_top ms n row s h) in
    let its : since.sequence ≡ s = same_of since.at (ap (sequence_at ms (Sector n)) same ∙ h.here) in
    let late : nat_lt s next ≡ false = late_from s next (let l = since.late in omega arith) in
    ap (λ c. not (is_there said row) && c) late ∙ not_and_false (is_there said row)

lost_by : (ms : List (Option Record)) (n next : ℕ) (said : Option ℕ) (l : Latest) → Says (sequence_at ms (Sector n)) (length ms) l → (is_lost_by_latest said next l ≡ false) ↔ (IsWhereSaid ms n said ⊎ IsSectorSince ms n next)
lost_by ms n next None Never h = (λ _. inl (never_all ms n h), λ _. refl)
lost_by ms n next (Some r) Never h = (
  λ e. absurd (true_false e),
  λ k. elim k [
    | inl top ↦ absurd (let top : IsNewest ms (Sector n) r = top in none_is (never_all ms n h r) top.here)
    | inr since ↦ absurd (none_is (never_all ms n h since.row) since.at)
  ],
)
lost_by ms n next said (Once row s) h = (
  λ e. kept_once ms n next row s said (is_there said row) (nat_lt s next) h refl refl e,
  λ k. elim k [
    | inl there ↦ said_once ms n next row s said h there
    | inr since ↦ since_once ms n next row s said h since
  ],
)
lost_by ms n next None (Tied a b t) h = (
  λ e. absurd (true_false e),
  λ k. elim k [
    | inl none ↦ absurd (none_is (none a) h.at_first)
    | inr since ↦ absurd (tied_none ms n a b t since.row h since.newest_is)
  ],
)
lost_by ms n next (Some r) (Tied a b t) h = (
  λ e. absurd (true_false e),
  λ k. elim k [
    | inl top ↦ absurd (tied_none ms n a b t r h top)
    | inr since ↦ absurd (tied_none ms n a b t since.row h since.newest_is)
  ],
)

latest_says : (image : Image) (n : ℕ) → Says (sequence_at (marks image) (Sector n)) (length (marks image)) (latest_below (marks image) (Sector n) (length image))
unfolding latest_below
latest_says image n = subst (λ k. Says (sequence_at (marks image) (Sector n)) (length (marks image)) (best (sequence_at (marks image) (Sector n)) k)) (length-marks image) (best_says (sequence_at (marks image) (Sector n)) (length (marks image)))

pub lost_law : HasLostPageLaw
unfolding has_lost_page
lost_law c image n = lost_by (marks image) n c.next (said_row c n) (latest_below (marks image) (Sector n) (length image)) (latest_says image n)

-- ---- a die that goes on

-- the sector's newest page has this record, whose sequence is late
record IsLate (ms : List (Option Record)) (n next : ℕ) : Type 0 where
  row : ℕ
  its : Record
  newest_is : newest ms (Sector n) ≡ Some row
  is : get_or ms row None ≡ Some its
  late : next ≤ its.sequence

-- the image has lost none, and the next sequence is this one
record Follows (g : Geometry) (c : Claim) (next : ℕ) (image : Image) : Type 0 where
  one : HasOneArray g image
  below : AreBelow (marks image) next
  late : c.next ≤ next
  kept : (n : ℕ) → n < g.sectors → (newest (marks image) (Sector n) ≡ said_row c n) ⊎ IsLate (marks image) n c.next

pub said_is : {A : Type 0} (xs : List (Option A)) (i : ℕ) (x : Option A) → slice_get xs i ≡ Some x → get_or xs i None ≡ x
said_is xs i x e = same_Some (get_or xs i None) x (sym (slice_get-get_or xs i None (slice_get_within xs i x e)) ∙ e)

agreed : (g : Geometry) (capacity : ℕ) (c : Claim) (image : Image) → Agrees g capacity image c → Follows g c c.next image
agreed g capacity c image h = record {
  one = record { distinct = h.sequences; in_range = h.numbers.in_range };
  below = h.next;
  late = le_refl c.next;
  kept = λ n within. inl (sym (said_is c.sectors n (newest (marks image) (Sector n)) (h.sectors.newest_is n within)));
}

-- a newest page that is still there has the record that it had
still : (old new : Image) (n row : ℕ) (its : Record) → newest (marks new) (Sector n) ≡ Some row → ((x : Record) → get_or (marks new) row None ≡ Some x → get_or (marks old) row None ≡ Some x) → get_or (marks old) row None ≡ Some its
    → get_or (marks new) row None ≡ Some its
still old new n row its top records is =
    let found = newest-record (marks new) (Sector n) row top in
    let both : Some found.0 ≡ Some its = sym (records found.0 found.1) ∙ is in
    found.1 ∙ both

kept_on : (g : Geometry) (c : Claim) (next : ℕ) (old new : Image) → Follows g c next old → Keeps g old new → Follows g c next new
kept_on g c next old new h k = record {
  one = k.one;
  below = k.below next h.below;
  late = h.late;
  kept = λ n within. elim (h.kept n within) [
    | inl same ↦ inl (k.newest_same (Sector n) ∙ same)
    | inr late ↦
        let top : newest (marks new) (Sector n) ≡ Some late.row = k.newest_same (Sector n) ∙ late.newest_is in
        inr (record { row = late.row; its = late.its; newest_is = top; is = still old new n late.row late.its top (λ x at. k.records late.row x at) late.is; late = late.late })
  ];
}

raised : (g : Geometry) (c : Claim) (next more : ℕ) (image : Image) → next ≤ more → Follows g c next image → Follows g c more image
raised g c next more image le h = record { one = h.one; below = below_more (marks image) next more le h.below; late = (let l = h.late in omega arith); kept = h.kept }

-- the written page is of another sector than one whose newest page is elsewhere
elsewhere : (g : Geometry) (r : Record) (row at n : ℕ) (body : List ℕ) (old new : Image) → Writes g r row body old new → key_of r ≢ Sector n → newest (marks new) (Sector n) ≡ Some at → at ≢ row
elsewhere g r row at n body old new w ne top same =
    let found = newest-record (marks new) (Sector n) at top in
    let here : get_or (marks new) at None ≡ Some r = ap (λ k. get_or (marks new) k None) same ∙ w.record_here in
    let both : Some found.0 ≡ Some r = sym found.1 ∙ here in
    let its : found.0 ≡ r = cc in
    ne (sym (ap key_of its) ∙ found.2)

written_on : (g : Geometry) (c : Claim) (next : ℕ) (r : Record) (row : ℕ) (body : List ℕ) (old new : Image) → Follows g c next old → next ≤ r.sequence → Writes g r row body old new → Follows g c (r.sequence + 1) new
written_on g c next r row body old new h le w = record {
  one = w.one;
  below = w.below;
  late = (let l = h.late in omega arith);
  kept = λ n within. elim (cases_key (key_of r) (Sector n)) [
    | inl same ↦ inr (record { row = row; its = r; newest_is = subst (λ k. newest (marks new) k ≡ Some row) same w.newest_now; is = w.record_here; late = (let l = h.late in omega arith) })
    | inr ne ↦ elim (h.kept n within) [
      | inl was ↦ inl (w.newest_others (Sector n) ne ∙ was)
      | inr late ↦
          let top : newest (marks new) (Sector n) ≡ Some late.row = w.newest_others (Sector n) ne ∙ late.newest_is in
          let apart : late.row ≢ row = elsewhere g r row late.row n body old new w ne top in
          inr (record { row = late.row; its = late.its; newest_is = top; is = still old new n late.row late.its top (λ x at. w.records late.row x apart at) late.is; late = late.late })
    ]
  ];
}

means_on : (g : Geometry) (c : Claim) (next : ℕ) (r : Record) (row : ℕ) (body : List ℕ) (passed : Bool) (old new : Image) → Follows g c next old → next ≤ r.sequence → ProgramMeans g r row body passed old new → Follows g c (r.sequence + 1) new
means_on g c next r row body true old new h le w = written_on g c next r row body old new h le w
means_on g c next r row body false old new h le k = raised g c next (r.sequence + 1) new (omega arith) (kept_on g c next old new h k)

goes_on : (g : Geometry) (c : Claim) (next : ℕ) (old new : Flash) (log : List Operation) → old.geometry ≡ g → Follows g c next old.image → LeadsInOrder g next old log new → (last : ℕ) × Follows g c last new.image
goes_on g c next old new [] same h e = (next, subst (λ (s : Flash). Follows g c next s.image) (sym e) h)
goes_on g c next old new (Program row p passed left ∷ log) same h (r, due, mid, step, rest) =
    let newer : AreBelow (marks old.image) r.sequence = below_more (marks old.image) next r.sequence due.late h.below in
    let means = program_means g old mid row p left passed r step h.one due.free due.says due.version newer due.of_key in
    goes_on g c (r.sequence + 1) mid new log (geometry-Steps old mid (Program row p passed left) step ∙ same) (means_on g c next r row p.body passed old.image mid.image h due.late means) rest
goes_on g c next old new (Erase block passed left ∷ log) same h (none, mid, step, rest) =
    goes_on g c next mid new log (geometry-Steps old mid (Erase block passed left) step ∙ same) (kept_on g c next old.image mid.image h (erase_keeps g old mid block passed left same step h.one none)) rest

-- under one array a sector with no newest page has no sound page
none_sound : (g : Geometry) (image : Image) (n row : ℕ) → HasOneArray g image → newest (marks image) (Sector n) ≡ None → sequence_at (marks image) (Sector n) row ≡ None
none_sound g image n row one none = from (sequence_at (marks image) (Sector n) row) refl
  where
    from : (o : Option ℕ) → sequence_at (marks image) (Sector n) row ≡ o → sequence_at (marks image) (Sector n) row ≡ None
    from None e = e
    from (Some s) e =
        let found : IsOf (Sector n) (get_or (marks image) row None) s = sequence_at-is (marks image) (Sector n) row s e in
        let some : IsSome (newest (marks image) (Sector n)) = subst (λ k. IsSome (newest (marks image) k)) found.of_key (newest_some (marks image) row found.its one.distinct found.is) in
        absurd (let no : is_some (newest (marks image) (Sector n)) ≡ false = ap is_some none in cc)

where_said : (g : Geometry) (image : Image) (n : ℕ) (said : Option ℕ) → HasOneArray g image → newest (marks image) (Sector n) ≡ said → IsWhereSaid (marks image) n said
where_said g image n None one e = λ row. none_sound g image n row one e
where_said g image n (Some row) one e = newest-is (marks image) (Sector n) row e

since_late : (ms : List (Option Record)) (n next : ℕ) → IsLate ms n next → IsSectorSince ms n next
since_late ms n next h =
    let found = newest-record ms (Sector n) h.row h.newest_is in
    let both : Some found.0 ≡ Some h.its = sym found.1 ∙ h.is in
    let its : found.0 ≡ h.its = cc in
    let key : key_of h.its ≡ Sector n = sym (ap key_of its) ∙ found.2 in
    record {
      row = h.row;
      sequence = h.its.sequence;
      newest_is = newest-is ms (Sector n) h.row h.newest_is;
      at = subst (λ k. sequence_at ms k h.row ≡ Some h.its.sequence) key (sequence_at-key ms h.row h.its h.is);
      late = h.late;
    }

pub one_program : OneProgramLaw
one_program g next old new row p r passed left free says version of late steps = (r, record { free = free; says = says; version = version; of_key = of; late = late }, new, steps, refl)

pub longer_log : LongerLogLaw
longer_log = record {
  program = λ g next old mid new row p r passed left log due step rest. (r, due, mid, step, rest);
  erase = λ g next old mid new block passed left log none step rest. (none, mid, step, rest);
}

pub none_lost : NoneLostLaw
none_lost g capacity c old new log n same agrees on within =
    let last = goes_on g c c.next old new log same (agreed g capacity c old.image agrees) on in
    let h : Follows g c last.0 new.image = last.1 in
    (lost_law c new.image n).1 (elim (h.kept n within) [
      | inl stands ↦ inl (where_said g new.image n (said_row c n) h.one stands)
      | inr late ↦ inr (since_late (marks new.image) n c.next late)
    ])
