-- Which page of a key is the newest, and what programs and losses make of it.
use Rattle.std.proofs.Common.{◌≡◌, ◌≢◌, ◌⊎◌, inl, inr, ℕ, ◌<◌, List, length, get_or, set, Option, Some, None, refl, ap, sym, ◌∙◌, subst}
use Rattle.std.specs.Prelude.{IsSome, is_some}
use Rattle.std.proofs.lemmas.Bool.{cases_eq, cases_lt, cond-true, cond-false}
use Rattle.std.proofs.lemmas.List.{get_or-set_same, get_or-set_other, get_or_past, set-get_or}
use Rattle.page_layout.specs.declared.record.Record.{Record}
use Rattle.page_layout.specs.declared.record.Key.{Key}
use Rattle.page_layout.specs.Key.{key_of, key_eq}
use Rattle.page_layout.specs.Greatest.{IsGreatest}
use Rattle.page_layout.specs.Newest.{sequence_of, sequence_at, IsNewest, newest, latest_below, TellsLatest}
use Rattle.page_layout.specs.OneArray.{AreDistinct}
use Rattle.page_layout.proofs.KeyLemmas.{key_eq-same, key_eq-other, cases_key}
use Rattle.page_layout.proofs.GreatestLemmas.{NoneFrom, IsInjective, best_describes, some_greatest, greatest-is, greatest_from, greatest_same}
use Rattle.page_layout.proofs.GreatestLemmas.{IsGreatest-same, IsGreatest-lost, IsGreatest-found}

-- ---- the sequence of a record

pub sequence_of-none : (key : Key) → sequence_of key None ≡ None
unfolding sequence_of
sequence_of-none key = refl

pub sequence_of-key : (r : Record) → sequence_of (key_of r) (Some r) ≡ Some r.sequence
unfolding sequence_of
sequence_of-key r = cond-true (key_eq (key_of r) (key_of r)) (Some r.sequence) None (key_eq-same (key_of r))

pub sequence_of-other : (key : Key) (r : Record) → key_of r ≢ key → sequence_of key (Some r) ≡ None
unfolding sequence_of
sequence_of-other key r ne = cond-false (key_eq (key_of r) key) (Some r.sequence) None (key_eq-other (key_of r) key ne)

-- a page with a sequence of a key is sound and of that key
pub record IsOf (key : Key) (mark : Option Record) (s : ℕ) : Type 0 where
  pub its : Record
  pub is : mark ≡ Some its
  pub of_key : key_of its ≡ key
  pub sequence_is : its.sequence ≡ s

pub sequence_of-is : (key : Key) (mark : Option Record) (s : ℕ) → sequence_of key mark ≡ Some s → IsOf key mark s
sequence_of-is key None s e = absurd (let no : None ≡ Some s = sym (sequence_of-none key) ∙ e in cc)
sequence_of-is key (Some r) s e = elim (cases_key (key_of r) key) [
  | inl same ↦ record {
    its = r;
    is = refl;
    of_key = same;
    sequence_is = let k : sequence_of key (Some r) ≡ Some r.sequence = rw (← same) (sequence_of-key r) in cc;
  }
  | inr ne ↦ absurd (let no : None ≡ Some s = sym (sequence_of-other key r ne) ∙ e in cc)
]

-- ---- the sequence at a row

pub sequence_at-is : (marks : List (Option Record)) (key : Key) (row s : ℕ) → sequence_at marks key row ≡ Some s → IsOf key (get_or marks row None) s
unfolding sequence_at
sequence_at-is marks key row s e = sequence_of-is key (get_or marks row None) s e

pub sequence_at-none : (marks : List (Option Record)) (key : Key) (row : ℕ) → get_or marks row None ≡ None → sequence_at marks key row ≡ None
unfolding sequence_at
sequence_at-none marks key row e = rw e (sequence_of-none key)

pub sequence_at-same : (ms ns : List (Option Record)) (key : Key) (row : ℕ) → get_or ms row None ≡ get_or ns row None → sequence_at ms key row ≡ sequence_at ns key row
unfolding sequence_at
sequence_at-same ms ns key row e = ap (sequence_of key) e

pub sequence_at-key : (marks : List (Option Record)) (row : ℕ) (r : Record) → get_or marks row None ≡ Some r → sequence_at marks (key_of r) row ≡ Some r.sequence
unfolding sequence_at
sequence_at-key marks row r e = rw e (sequence_of-key r)

pub sequence_at-other : (marks : List (Option Record)) (key : Key) (row : ℕ) (r : Record) → get_or marks row None ≡ Some r → key_of r ≢ key → sequence_at marks key row ≡ None
unfolding sequence_at
sequence_at-other marks key row r e ne = rw e (sequence_of-other key r ne)

pub sequence_at_past : (marks : List (Option Record)) (key : Key) → NoneFrom (sequence_at marks key) (length marks)
sequence_at_past marks key = record { all = λ q le. sequence_at-none marks key q (get_or_past marks q None le) }

-- ---- `newest` is the newest

pub newest-is : (marks : List (Option Record)) (key : Key) (row : ℕ) → newest marks key ≡ Some row → IsNewest marks key row
unfolding newest
newest-is marks key row e = greatest-is (sequence_at marks key) (length marks) row (sequence_at_past marks key) e

pub newest_from : (marks : List (Option Record)) (key : Key) (row : ℕ) → IsNewest marks key row → newest marks key ≡ Some row
unfolding newest
newest_from marks key row top = greatest_from (sequence_at marks key) (length marks) row (sequence_at_past marks key) top

pub newest_same : (ms ns : List (Option Record)) (key : Key) → ((r : ℕ) → IsNewest ms key r → IsNewest ns key r) → ((r : ℕ) → IsNewest ns key r → IsNewest ms key r) → newest ms key ≡ newest ns key
unfolding newest
newest_same ms ns key to back = greatest_same (sequence_at ms key) (sequence_at ns key) (length ms) (length ns) (sequence_at_past ms key) (sequence_at_past ns key) to back

newest_pointwise : (ms ns : List (Option Record)) (key : Key) → ((q : ℕ) → sequence_at ns key q ≡ sequence_at ms key q) → newest ns key ≡ newest ms key
newest_pointwise ms ns key same = newest_same ns ms key
    (λ r top. IsGreatest-same (sequence_at ns key) (sequence_at ms key) r (λ q. sym (same q)) top)
    (λ r top. IsGreatest-same (sequence_at ms key) (sequence_at ns key) r same top)

-- the row of the newest page is one of the image, and its page is sound and of the key
pub newest-record : (marks : List (Option Record)) (key : Key) (row : ℕ) → newest marks key ≡ Some row → (r : Record) × (get_or marks row None ≡ Some r) × (key_of r ≡ key)
newest-record marks key row e =
    let top : IsNewest marks key row = newest-is marks key row e in
    let found : IsOf key (get_or marks row None) top.value = sequence_at-is marks key row top.value top.here in
    (found.its, found.is, found.of_key)

pub newest-within : (marks : List (Option Record)) (key : Key) (row : ℕ) → newest marks key ≡ Some row → row < length marks
newest-within marks key row e =
    let found = newest-record marks key row e in
    elim (cases_lt row (length marks)) [
      | inl l ↦ l
      | inr le ↦ absurd (let past : get_or marks row None ≡ None = get_or_past marks row None le in let is : get_or marks row None ≡ Some found.0 = found.1 in cc)
    ]

-- what a scan of all pages knows
pub scan_tells : (marks : List (Option Record)) (key : Key) → TellsLatest marks key (latest_below marks key (length marks))
unfolding latest_below
scan_tells marks key = best_describes (sequence_at marks key) (length marks) (sequence_at_past marks key)

-- ---- a page is programmed

-- the row had no sound page, and its new page's sequence is greater than that of every sound page of its key
pub newest_programmed : (marks : List (Option Record)) (row : ℕ) (r : Record) → row < length marks → ((q s : ℕ) → sequence_at marks (key_of r) q ≡ Some s → s < r.sequence) → newest (set marks row (Some r)) (key_of r) ≡ Some row
newest_programmed marks row r within above = newest_from (set marks row (Some r)) (key_of r) row (record {
  value = r.sequence;
  here = sequence_at-key (set marks row (Some r)) row r (get_or-set_same marks row (Some r) None within);
  others = λ q s ne at. above q s (sym (sequence_at-same (set marks row (Some r)) marks (key_of r) q (get_or-set_other marks row q (Some r) None ne)) ∙ at);
})

pub newest_other_key : (marks : List (Option Record)) (row : ℕ) (r : Record) (key : Key) → row < length marks → get_or marks row None ≡ None → key_of r ≢ key → newest (set marks row (Some r)) key ≡ newest marks key
newest_other_key marks row r key within was ne = newest_pointwise marks (set marks row (Some r)) key (λ q. elim (cases_eq q row) [
  | inl same ↦ rw same
      (sequence_at-other (set marks row (Some r)) key row r (get_or-set_same marks row (Some r) None within) ne
      ∙ sym (sequence_at-none marks key row was))
  | inr other ↦ sequence_at-same (set marks row (Some r)) marks key q (get_or-set_other marks row q (Some r) None other)
])

-- the new page has no sound record either
pub set_unsound : (marks : List (Option Record)) (row : ℕ) → get_or marks row None ≡ None → set marks row None ≡ marks
set_unsound marks row was =
    let P : Option Record → Type 0 = λ m. set marks row m ≡ marks in
    subst P was (set-get_or marks row None)

-- ---- distinct sequences

-- under distinct sequences no key has a sequence twice
injective : (marks : List (Option Record)) (key : Key) → AreDistinct marks → IsInjective (sequence_at marks key)
injective marks key distinct = record {
  apart = λ a b s x y.
      let p : IsOf key (get_or marks a None) s = sequence_at-is marks key a s x in
      let q : IsOf key (get_or marks b None) s = sequence_at-is marks key b s y in
      distinct.apart a b p.its q.its p.is q.is (p.sequence_is ∙ sym q.sequence_is);
}

-- under them each key of a sound page has a newest page
pub newest_some : (marks : List (Option Record)) (row : ℕ) (r : Record) → AreDistinct marks → get_or marks row None ≡ Some r → IsSome (newest marks (key_of r))
newest_some marks row r distinct is =
    let top = some_greatest (sequence_at marks (key_of r)) (length marks) row r.sequence (sequence_at_past marks (key_of r)) (injective marks (key_of r) distinct) (sequence_at-key marks row r is) in
    let now : newest marks (key_of r) ≡ Some top.0 = newest_from marks (key_of r) top.0 top.1 in
    ap is_some now

-- ---- pages are lost

-- each page is as it was, or has no sound record
pub record Forgets (ms ns : List (Option Record)) : Type 0 where
  pub at : (row : ℕ) → (get_or ns row None ≡ get_or ms row None) ⊎ (get_or ns row None ≡ None)

pub newest_forgets : (ms ns : List (Option Record)) (key : Key) → AreDistinct ms → Forgets ms ns → ((row : ℕ) → newest ms key ≡ Some row → get_or ns row None ≡ get_or ms row None) → newest ns key ≡ newest ms key
newest_forgets ms ns key distinct forgets kept =
    let f : ℕ → Option ℕ = sequence_at ms key in
    let g : ℕ → Option ℕ = sequence_at ns key in
    let lost : (q : ℕ) → (g q ≡ f q) ⊎ (g q ≡ None) = λ q. elim (forgets.at q) [
      | inl same ↦ inl (sequence_at-same ns ms key q same)
      | inr gone ↦ inr (sequence_at-none ns key q gone)
    ] in
    let keeps : (r : ℕ) → IsGreatest f r → g r ≡ f r = λ r top. sequence_at-same ns ms key r (kept r (newest_from ms key r top)) in
    newest_same ns ms key
    (λ r top. IsGreatest-found f g (length ms) r (sequence_at_past ms key) (injective ms key distinct) lost keeps top)
    (λ r top. IsGreatest-lost f g r lost (keeps r top) top)
