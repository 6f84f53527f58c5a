-- One page more in each part of the survey.
use Rattle.std.proofs.Common.{◌≡◌, ◌≢◌, ℕ, suc, ◌+◌, ◌<◌, ◌≤◌, Bool, true, false, List, [], ◌++◌, length, get_or, set, length-set, Option, Some}
use Rattle.std.proofs.Common.{None, refl, sym, ap, subst, ◌∙◌, arith, inl, inr, slice_get, replicate, get_or-set_same, get_or-set_other}
use Rattle.std.proofs.lemmas.Bool.{cases_order}
use Rattle.std.proofs.lemmas.List.{length-replicate, get_or-replicate, get_or_default}
use Rattle.std.proofs.lemmas.Option.{slice_get_within}
use Rattle.page_layout.specs.declared.geometry.Geometry.{Geometry}
use Rattle.page_layout.specs.declared.record.Record.{Record}
use Rattle.page_layout.specs.declared.record.Key.{Key}
use Rattle.page_layout.specs.declared.record.Key.TheVariants.{Sector, Translation, Table}
use Rattle.page_layout.specs.declared.newest.Latest.{Latest}
use Rattle.page_layout.specs.declared.newest.Latest.TheVariants.{Never}
use Rattle.page_layout.specs.Geometry.{key_count}
use Rattle.page_layout.specs.Greatest.{step, best}
use Rattle.page_layout.specs.Key.{key_of}
use Rattle.page_layout.specs.Newest.{latest_below, sequence_at}
use Rattle.page_layout.specs.Live.{IsKeyOf}
use Rattle.page_layout.proofs.GreatestLemmas.{best-suc}
use Rattle.page_layout.proofs.NewestLemmas.{sequence_at-none, sequence_at-key, sequence_at-other}
use Rattle.page_layout.proofs.KeyLemmas.{cases_key}
use Rattle.std.proofs.Common.{All}
use Rattle.certificate.specs.Spelling.{IsRowOf}
use Rattle.image_check.specs.declared.newest.Newest.{Newest}
use Rattle.image_check.specs.Newest.{TellsNewest, place_in, no_newest}
use Rattle.image_check.proofs.TellLemmas.{IsNext, tells_place}
use Rattle.image_check.specs.Survey.{index_of, HasNewest, HasOutside, pair_of, pairs_below, HasPassed}

-- ---- by key

pub latest_more : (marks : List (Option Record)) (key : Key) (row : ℕ) → latest_below marks key (row + 1) ≡ step (latest_below marks key row) row (sequence_at marks key row)
unfolding latest_below
latest_more marks key row = best-suc (sequence_at marks key) row

-- a page that isn't of the key
pub latest_other : (marks : List (Option Record)) (key : Key) (row : ℕ) → sequence_at marks key row ≡ None → latest_below marks key (row + 1) ≡ latest_below marks key row
latest_other marks key row e = latest_more marks key row ∙ ap (step (latest_below marks key row) row) e

-- keys in range have places of their own
pub index_apart : (g : Geometry) (a b : Key) → IsKeyOf g a → IsKeyOf g b → a ≢ b → index_of g a ≢ index_of g b
index_apart g (Sector m) (Sector n) h k ne e = ne (ap Sector e)
index_apart g (Sector m) (Translation t) h k ne e = absurd (omega arith)
index_apart g (Sector m) (Table u) h k ne e = absurd (omega arith)
index_apart g (Translation t) (Sector n) h k ne e = absurd (omega arith)
index_apart g (Translation s) (Translation t) h k ne e = let same : s ≡ t = omega arith in ne (ap Translation same)
index_apart g (Translation t) (Table u) h k ne e = absurd (omega arith)
index_apart g (Table u) (Sector n) h k ne e = absurd (omega arith)
index_apart g (Table u) (Translation t) h k ne e = absurd (omega arith)
index_apart g (Table u) (Table v) h k ne e = let same : u ≡ v = omega arith in ne (ap Table same)

pub index_within : (g : Geometry) (key : Key) → IsKeyOf g key → index_of g key < key_count g
index_within g (Sector n) h = omega arith
index_within g (Translation t) h = omega arith
index_within g (Table u) h = omega arith

-- what is said of a key stays with a page that is not of it
still : (g : Geometry) (marks : List (Option Record)) (row : ℕ) (key : Key) (items : List Newest)
    → TellsNewest (get_or items (index_of g key) no_newest) (latest_below marks key row) → sequence_at marks key row ≡ None
    → TellsNewest (get_or items (index_of g key) no_newest) (latest_below marks key (row + 1))
still g marks row key items h none = subst (λ l. TellsNewest (get_or items (index_of g key) no_newest) l) (sym (latest_other marks key row none)) h

pub newest_none : (g : Geometry) (marks : List (Option Record)) (row : ℕ) (items : List Newest) → HasNewest g marks row items → get_or marks row None ≡ None → HasNewest g marks (row + 1) items
newest_none g marks row items h e = record {
  size = h.size;
  at = λ key within. still g marks row key items (h.at key within) (sequence_at-none marks key row e);
}

pub newest_outside : (g : Geometry) (marks : List (Option Record)) (row : ℕ) (items : List Newest) (r : Record) → HasNewest g marks row items → get_or marks row None ≡ Some r → (¬ IsKeyOf g (key_of r)) → HasNewest g marks (row + 1) items
newest_outside g marks row items r h e outside = record {
  size = h.size;
  at = λ key within.
      let ne : key_of r ≢ key = λ same. outside (subst (λ k. IsKeyOf g k) (sym same) within) in
      still g marks row key items (h.at key within) (sequence_at-other marks key row r e ne);
}

-- the key that the page is of
newest_of_key : (g : Geometry) (marks : List (Option Record)) (row i : ℕ) (items : List Newest) (r : Record) (d new : Newest)
    → HasNewest g marks row items → get_or marks row None ≡ Some r → IsKeyOf g (key_of r) → i ≡ index_of g (key_of r) → i < length items
    → IsNext (get_or items i d) row r.sequence new
    → TellsNewest (get_or (set items i new) (index_of g (key_of r)) no_newest) (latest_below marks (key_of r) (row + 1))
newest_of_key g marks row i items r d new h e within at in_items next =
    let old : Latest = latest_below marks (key_of r) row in
    let read : get_or items i d ≡ get_or items (index_of g (key_of r)) no_newest = get_or_default items i d no_newest in_items ∙ ap (λ j. get_or items j no_newest) at in
    let told : TellsNewest new (step old row (Some r.sequence)) = next old (subst (λ x. TellsNewest x old) (sym read) (h.at (key_of r) within)) in
    let here : get_or (set items i new) (index_of g (key_of r)) no_newest ≡ new = ap (λ j. get_or (set items i new) j no_newest) (sym at) ∙ get_or-set_same items i new no_newest in_items in
    let more : step old row (Some r.sequence) ≡ latest_below marks (key_of r) (row + 1) = sym (latest_more marks (key_of r) row ∙ ap (step old row) (sequence_at-key marks row r e)) in
    subst (λ l. TellsNewest (get_or (set items i new) (index_of g (key_of r)) no_newest) l) more (subst (λ x. TellsNewest x (step old row (Some r.sequence))) (sym here) told)

pub newest_set : (g : Geometry) (marks : List (Option Record)) (row i : ℕ) (items : List Newest) (r : Record) (d new : Newest)
    → HasNewest g marks row items → get_or marks row None ≡ Some r → IsKeyOf g (key_of r) → i ≡ index_of g (key_of r)
    → IsNext (get_or items i d) row r.sequence new → HasNewest g marks (row + 1) (set items i new)
newest_set g marks row i items r d new h e within at next =
    let in_items : i < length items = omega (arith, index_within g (key_of r) within, h.size, at) in
    record {
      size = length-set items i new ∙ h.size;
      at = λ key k.
          elim (cases_key (key_of r) key) [
            | inl same ↦ subst (λ (x : Key). TellsNewest (get_or (set items i new) (index_of g x) no_newest) (latest_below marks x (row + 1))) same (newest_of_key g marks row i items r d new h e within at in_items next)
            | inr ne ↦
                let apart : index_of g key ≢ i = λ eq. index_apart g (key_of r) key within k ne (sym at ∙ sym eq) in
                still g marks row key (set items i new) (subst (λ x. TellsNewest x (latest_below marks key row)) (sym (get_or-set_other items i (index_of g key) new no_newest apart)) (h.at key k)) (sequence_at-other marks key row r e ne)
          ];
    }

-- ---- numbers

pub outside_none : (g : Geometry) (marks : List (Option Record)) (row : ℕ) → HasOutside g marks row None → get_or marks row None ≡ None → HasOutside g marks (row + 1) None
outside_none g marks row h e q r l is = elim (cases_order q row) [
  | inl same ↦ absurd (let clash : None ≡ Some r = sym e ∙ (ap (λ k. get_or marks k None) (sym same) ∙ is) in cc)
  | inr (inl below) ↦ h q r below is
  | inr (inr above) ↦ absurd (omega arith)
]

pub outside_within : (g : Geometry) (marks : List (Option Record)) (row : ℕ) (x : Record) → HasOutside g marks row None → get_or marks row None ≡ Some x → IsKeyOf g (key_of x) → HasOutside g marks (row + 1) None
outside_within g marks row x h e within q r l is = elim (cases_order q row) [
  | inl same ↦ let joined : Some x ≡ Some r = sym e ∙ (ap (λ k. get_or marks k None) (sym same) ∙ is) in let eq : x ≡ r = cc in subst (λ k. IsKeyOf g (key_of k)) eq within
  | inr (inl below) ↦ h q r below is
  | inr (inr above) ↦ absurd (omega arith)
]

pub outside_found : (g : Geometry) (marks : List (Option Record)) (row : ℕ) (x : Record) → HasOutside g marks row None → get_or marks row None ≡ Some x → (¬ IsKeyOf g (key_of x)) → HasOutside g marks (row + 1) (Some row)
outside_found g marks row x h e outside = record { at = record { found = x; here = e; outside = outside }; before = h }

-- what the item of a key says
pub newest_at : (g : Geometry) (marks : List (Option Record)) (rows i : ℕ) (items : List Newest) (key : Key) (d : Newest) → HasNewest g marks rows items → IsKeyOf g key → i ≡ index_of g key → TellsNewest (get_or items i d) (latest_below marks key rows)
newest_at g marks rows i items key d h within at =
    let in_items : i < length items = omega (arith, index_within g key within, h.size, at) in
    subst (λ x. TellsNewest x (latest_below marks key rows)) (sym (get_or_default items i d no_newest in_items ∙ ap (λ j. get_or items j no_newest) at)) (h.at key within)

-- ---- sequences

pub pairs_more : (ms : List (Option Record)) (row : ℕ) (items more : List (ℕ × ℕ)) (found : Option Record) → items ≡ pairs_below ms row → get_or ms row None ≡ found → more ≡ items ++ pair_of row found → more ≡ pairs_below ms (row + 1)
unfolding pairs_below
pairs_more ms row items more found h e is = let k : row + 1 ≡ suc row = omega arith in rw (k, e, ← h) is

pub pairs_none : (ms : List (Option Record)) → pairs_below ms 0 ≡ []
unfolding pairs_below
pairs_none ms = refl

-- ---- nothing seen

pub latest_start : (ms : List (Option Record)) (key : Key) → latest_below ms key 0 ≡ Never
unfolding latest_below best
latest_start ms key = refl

pub newest_start : (g : Geometry) (ms : List (Option Record)) (items : List Newest) (x : Newest) → TellsNewest x Never → items ≡ replicate (key_count g) x → HasNewest g ms 0 items
newest_start g ms items x none e = record {
  size = ap length e ∙ length-replicate (key_count g) x;
  at = λ key within.
      let here : get_or items (index_of g key) no_newest ≡ x = ap (λ xs. get_or xs (index_of g key) no_newest) e ∙ get_or-replicate (key_count g) (index_of g key) x no_newest (index_within g key within) in
      subst (λ l. TellsNewest (get_or items (index_of g key) no_newest) l) (sym (latest_start ms key)) (subst (λ y. TellsNewest y Never) (sym here) none);
}

pub outside_start : (g : Geometry) (ms : List (Option Record)) → HasOutside g ms 0 None
outside_start g ms q r l e = absurd (omega arith)

-- ---- claims

-- the claims that passed so far, with one page more: it isn't sound
pub passed_none : (ms : List (Option Record)) (row : ℕ) (claims : List (Option ℕ)) (passed : List Bool) → HasPassed ms row claims passed → ((n : ℕ) → slice_get claims n ≡ Some (Some row) → sequence_at ms (Sector n) row ≡ None) → HasPassed ms (row + 1) claims passed
passed_none ms row claims passed h none = record {
  yes = h.yes;
  no = λ n r at l e. elim (cases_order r row) [
    | inl same ↦ subst (λ k. sequence_at ms (Sector n) k ≡ None) (sym same) (none n (subst (λ k. slice_get claims n ≡ Some (Some k)) same at))
    | inr (inl below) ↦ h.no n r at below e
    | inr (inr above) ↦ absurd (omega arith)
  ];
}

-- it is of a sector for which its row is claimed
pub passed_set : (ms : List (Option Record)) (row sector : ℕ) (claims : List (Option ℕ)) (passed : List Bool) (r : Record)
    → HasPassed ms row claims passed → get_or ms row None ≡ Some r → key_of r ≡ Sector sector → slice_get claims sector ≡ Some (Some row)
    → sector < length passed → HasPassed ms (row + 1) claims (set passed sector true)
passed_set ms row sector claims passed r h e of_key claimed within = record {
  yes = λ n k at is. elim (cases_order n sector) [
    | inl same ↦
        let here : slice_get claims sector ≡ Some (Some k) = subst (λ m. slice_get claims m ≡ Some (Some k)) same at in
        let row_is : row ≡ k = (let both : Some (Some row) ≡ Some (Some k) = sym claimed ∙ here in cc) in
        let there : sequence_at ms (Sector sector) row ≡ Some r.sequence = subst (λ (x : Key). sequence_at ms x row ≡ Some r.sequence) of_key (sequence_at-key ms row r e) in
        record { sequence = r.sequence; here = subst (λ m. sequence_at ms (Sector m) k ≡ Some r.sequence) (sym same) (subst (λ q. sequence_at ms (Sector sector) q ≡ Some r.sequence) row_is there) }
    | inr (inl below) ↦ h.yes n k at (sym (get_or-set_other passed sector n true false (λ x. absurd (omega arith))) ∙ is)
    | inr (inr above) ↦ h.yes n k at (sym (get_or-set_other passed sector n true false (λ x. absurd (omega arith))) ∙ is)
  ];
  no = λ n k at l is. elim (cases_order n sector) [
    | inl same ↦ absurd (let t : true ≡ false = sym (get_or-set_same passed sector true false within) ∙ subst (λ m. get_or (set passed sector true) m false ≡ false) same is in cc)
    | inr (inl below) ↦ other n k at l (λ x. absurd (omega arith)) is
    | inr (inr above) ↦ other n k at l (λ x. absurd (omega arith)) is
  ];
}
  where
    other : (n k : ℕ) → slice_get claims n ≡ Some (Some k) → k < row + 1 → n ≢ sector → get_or (set passed sector true) n false ≡ false → sequence_at ms (Sector n) k ≡ None
    other n k at l ne is =
        let old : get_or passed n false ≡ false = sym (get_or-set_other passed sector n true false ne) ∙ is in
        let key_ne : key_of r ≢ Sector n = λ x. ne (let both : Sector sector ≡ Sector n = sym of_key ∙ x in cc) in
        elim (cases_order k row) [
          | inl same ↦ subst (λ q. sequence_at ms (Sector n) q ≡ None) (sym same) (sequence_at-other ms (Sector n) row r e key_ne)
          | inr (inl below) ↦ h.no n k at below old
          | inr (inr above) ↦ absurd (omega arith)
        ]

pub passed_first : (ms : List (Option Record)) (claims : List (Option ℕ)) (passed : List Bool) → ((n : ℕ) → get_or passed n false ≡ false) → HasPassed ms 0 claims passed
passed_first ms claims passed none = record {
  yes = λ n row at e. absurd (let t : true ≡ false = sym e ∙ none n in cc);
  no = λ n row at l e. absurd (omega arith);
}

-- ---- why the page of a row is of no sector for which the row is claimed

-- it isn't sound
pub none_sound : (ms : List (Option Record)) (row : ℕ) (claims : List (Option ℕ)) → get_or ms row None ≡ None → (n : ℕ) → slice_get claims n ≡ Some (Some row) → sequence_at ms (Sector n) row ≡ None
none_sound ms row claims e n at = sequence_at-none ms (Sector n) row e

-- it is of no sector
pub none_of_sector : (ms : List (Option Record)) (row : ℕ) (claims : List (Option ℕ)) (r : Record) → get_or ms row None ≡ Some r → ((n : ℕ) → key_of r ≢ Sector n) → (n : ℕ) → slice_get claims n ≡ Some (Some row) → sequence_at ms (Sector n) row ≡ None
none_of_sector ms row claims r e ne n at = sequence_at-other ms (Sector n) row r e (ne n)

-- it is of a sector past the claims
pub none_past : (ms : List (Option Record)) (row sector : ℕ) (claims : List (Option ℕ)) (r : Record) → get_or ms row None ≡ Some r → key_of r ≡ Sector sector → length claims ≤ sector → (n : ℕ) → slice_get claims n ≡ Some (Some row) → sequence_at ms (Sector n) row ≡ None
none_past ms row sector claims r e of_key past n at =
    let within = slice_get_within claims n (Some row) at in
    sequence_at-other ms (Sector n) row r e (λ x. (let both : Sector sector ≡ Sector n = sym of_key ∙ x in let same : sector ≡ n = cc in absurd (omega arith)))

-- it is of a sector for which another row is claimed
pub none_claimed : (ms : List (Option Record)) (row sector : ℕ) (claims : List (Option ℕ)) (r : Record) (claim : Option ℕ)
    → get_or ms row None ≡ Some r → key_of r ≡ Sector sector → slice_get claims sector ≡ Some claim → claim ≢ Some row → (n : ℕ)
    → slice_get claims n ≡ Some (Some row) → sequence_at ms (Sector n) row ≡ None
none_claimed ms row sector claims r claim e of_key claimed ne n at =
    sequence_at-other ms (Sector n) row r e (λ x.
    let both : Sector sector ≡ Sector n = sym of_key ∙ x in
    let same : sector ≡ n = cc in
    let here : Some claim ≡ Some (Some row) = sym claimed ∙ (ap (slice_get claims) same ∙ at) in
    ne cc)

-- ---- rows

pub below_start : (n : ℕ) (x : Newest) → TellsNewest x Never → All (λ y. IsRowOf 0 (place_in y)) (replicate n x)
below_start n x none k d l =
    let e : get_or (replicate n x) k d ≡ x = get_or-replicate n k x d (omega (arith, length-replicate n x)) in
    subst (λ y. IsRowOf 0 (place_in y)) (sym e) (subst (λ o. IsRowOf 0 o) (sym (tells_place x Never none)) tt)
