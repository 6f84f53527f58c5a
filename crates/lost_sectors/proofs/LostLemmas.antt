-- The criterion, computed.
use Rattle.std.proofs.Common.{◌≡◌, ◌≢◌, ℕ, ◌<◌, ◌/◌, true, false, get_or, Option, Some, None, refl, sym, ap, ◌∙◌, subst}
use Rattle.std.specs.Prelude.{nat_lt, ◌&&◌, ◌==◌}
use Rattle.std.proofs.lemmas.Bool.{and_from, and_parts, both_ways, eq-eqb, ltb-true, lt-ltb, not-true, ne_eqb, not_from_false}
use Rattle.page_layout.specs.declared.record.Record.{Record}
use Rattle.page_layout.specs.declared.record.Key.{Key}
use Rattle.page_layout.specs.declared.record.Key.TheVariants.{Sector, Translation}
use Rattle.page_layout.specs.Geometry.{entries}
use Rattle.page_layout.specs.Page.{Image}
use Rattle.page_layout.specs.Key.{key_of}
use Rattle.page_layout.specs.Newest.{newest, sequence_at}
use Rattle.page_layout.specs.Array.{marks}
use Rattle.page_layout.proofs.NewestLemmas.{newest-record, sequence_at-key}
use Rattle.translation_pages.specs.Entry.{entry_of}
use Rattle.lost_sectors.specs.Lost.{IsLost, is_lost, is_lost_by, is_older, names_other, newest_sequence, sequence_of_row}
use Rattle.lost_sectors.specs.Laws.{LostLaw}

pub none_is : {A : Type 0} {o : Option A} {s : A} → o ≡ None → o ≡ Some s → ⊥
none_is a b = cc

pub same_of : {A : Type 0} {o : Option A} {s t : A} → o ≡ Some s → o ≡ Some t → s ≡ t
same_of a b = cc

true_false : false ≡ true → ⊥
true_false e = cc

-- ---- the sequence of a newest page

pub newest_sequence_none : (image : Image) (key : Key) → newest (marks image) key ≡ None → newest_sequence image key ≡ None
unfolding newest_sequence
newest_sequence_none image key none = ap (sequence_of_row (marks image) key) none

pub newest_sequence_at : (image : Image) (key : Key) (row : ℕ) → newest (marks image) key ≡ Some row → newest_sequence image key ≡ sequence_at (marks image) key row
unfolding newest_sequence
newest_sequence_at image key row is = ap (sequence_of_row (marks image) key) is

pub newest_sequence_is : (image : Image) (key : Key) (row : ℕ) (r : Record) → newest (marks image) key ≡ Some row → get_or (marks image) row None ≡ Some r → newest_sequence image key ≡ Some r.sequence
newest_sequence_is image key row r is has =
    let found = newest-record (marks image) key row is in
    let one : found.0 ≡ r = same_of found.1 has in
    let of : key_of r ≡ key = ap key_of (sym one) ∙ found.2 in
    newest_sequence_at image key row is ∙ subst (λ k. sequence_at (marks image) k row ≡ Some r.sequence) of (sequence_at-key (marks image) row r has)

-- ---- the criterion

-- what the computed answer says of these
pub record LostBy (mark : ℕ) (page named place sequence : Option ℕ) : Type 0 where
  pub row : ℕ
  pub named_is : named ≡ Some row
  pub away : place ≢ Some row
  pub at : ℕ
  pub page_is : page ≡ Some at
  pub marked : at < mark
  pub older : (s : ℕ) → sequence ≡ Some s → s < at

other_is : (named place : Option ℕ) → names_other named place ≡ true → (row : ℕ) × (named ≡ Some row) × (place ≢ Some row)
other_is None place e = absurd (true_false e)
other_is (Some row) None e = (row, refl, λ is. let clash : None ≡ Some row = is in cc)
other_is (Some row) (Some place) e = (row, refl, λ is. both_ways (row == place) (not-true (row == place) e) (eq-eqb row place (sym (same_of refl is))))

other_from : (named place : Option ℕ) (row : ℕ) → named ≡ Some row → place ≢ Some row → names_other named place ≡ true
other_from None place row is ne = absurd (none_is refl is)
other_from (Some a) None row is ne = refl
other_from (Some a) (Some place) row is ne =
    let same : a ≡ row = same_of refl is in
    not_from_false (a == place) (ne_eqb a place (λ e. ne (ap Some (sym e ∙ same))))

older_is : (sequence : Option ℕ) (at : ℕ) → is_older sequence at ≡ true → (s : ℕ) → sequence ≡ Some s → s < at
older_is None at e s is = absurd (none_is refl is)
older_is (Some a) at e s is = subst (λ n. n < at) (same_of refl is) (ltb-true a at e)

older_from : (sequence : Option ℕ) (at : ℕ) → ((s : ℕ) → sequence ≡ Some s → s < at) → is_older sequence at ≡ true
older_from None at h = refl
older_from (Some a) at h = lt-ltb a at (h a refl)

pub lost_by_is : (mark : ℕ) (page named place sequence : Option ℕ) → is_lost_by mark page named place sequence ≡ true → LostBy mark page named place sequence
lost_by_is mark None named place sequence e = absurd (true_false e)
lost_by_is mark (Some at) named place sequence e =
    let parts = and_parts (nat_lt at mark) (names_other named place && is_older sequence at) e in
    let rest = and_parts (names_other named place) (is_older sequence at) parts.1 in
    let other = other_is named place rest.0 in
    record {
      row = other.0;
      named_is = other.1;
      away = other.2;
      at = at;
      page_is = refl;
      marked = ltb-true at mark parts.0;
      older = older_is sequence at rest.1;
    }

pub lost_by_from : (mark : ℕ) (page named place sequence : Option ℕ) → LostBy mark page named place sequence → is_lost_by mark page named place sequence ≡ true
lost_by_from mark page named place sequence h = subst (λ p. is_lost_by mark p named place sequence ≡ true) (sym h.page_is)
    (and_from (nat_lt h.at mark) (names_other named place && is_older sequence h.at) (lt-ltb h.at mark h.marked)
    (and_from (names_other named place) (is_older sequence h.at) (other_from named place h.row h.named_is h.away) (older_from sequence h.at h.older)))

pub lost : LostLaw
unfolding is_lost
lost g image mark n = (
  λ e. (let h = lost_by_is mark (newest_sequence image (Translation (n / entries g))) (entry_of g image n) (newest (marks image) (Sector n)) (newest_sequence image (Sector n)) e in
      record { row = h.row; named = h.named_is; away = h.away; sequence = h.at; at = h.page_is; marked = h.marked; older = h.older }),
  λ (h : IsLost g image mark n). lost_by_from mark (newest_sequence image (Translation (n / entries g))) (entry_of g image n) (newest (marks image) (Sector n)) (newest_sequence image (Sector n))
      (record { row = h.row; named_is = h.named; away = h.away; at = h.sequence; page_is = h.at; marked = h.marked; older = h.older }),
)
