-- One page more in what is held of each key, and the keys by their places.
use Rattle.std.proofs.Common.{◌≡◌, ◌≢◌, inl, inr, ℕ, ◌+◌, ◌-◌, ◌<◌, List, length, get_or, set, replicate, Option, Some, None, refl, sym, ap, ◌∙◌, subst, arith, cond}
use Rattle.std.specs.Prelude.{nat_lt}
use Rattle.std.proofs.lemmas.Bool.{cases_lt, lt-ltb, le-ltb}
use Rattle.std.proofs.lemmas.List.{get_or-set_same, get_or-set_other, get_or-replicate, get_or_default, length-set, length-replicate}
use Rattle.page_layout.specs.declared.geometry.Geometry.{Geometry}
use Rattle.page_layout.specs.declared.record.Record.{Record}
use Rattle.page_layout.specs.declared.record.Key.{Key}
use Rattle.page_layout.specs.declared.record.Key.TheVariants.{Sector, Translation, Table}
use Rattle.page_layout.specs.declared.newest.Latest.{Latest}
use Rattle.page_layout.specs.declared.newest.Latest.TheVariants as latest
use Rattle.page_layout.specs.Geometry.{key_count, translation_pages}
use Rattle.page_layout.specs.Greatest.{step, place_of}
use Rattle.page_layout.specs.Key.{key_of}
use Rattle.page_layout.specs.Newest.{latest_below, sequence_at}
use Rattle.page_layout.specs.Live.{IsKeyOf}
use Rattle.page_layout.proofs.NewestLemmas.{sequence_at-none, sequence_at-key, sequence_at-other}
use Rattle.page_layout.proofs.KeyLemmas.{cases_key}
use Rattle.image_check.specs.Survey.{index_of}
use Rattle.image_check.proofs.SurveyLemmas.{latest_more, latest_other, latest_start, index_apart, index_within}
use Rattle.lab_dump.specs.declared.trace.Trace.{Trace}
use Rattle.lab_dump.specs.declared.trace.Trace.TheVariants.{Never, Once, Tied}
use Rattle.lab_dump.specs.Trace.{TellsTrace, place_in_trace, is_tied_in, key_state_in}
use Rattle.lab_dump.specs.Held.{state_by}
use Rattle.lab_dump.specs.Doubting.{HasTraces}
use Rattle.lab_dump.specs.Bad.{key_at, is_tied}

-- ---- what is held

pub tells_place : (t : Trace) (l : Latest) → TellsTrace t l → place_in_trace t ≡ place_of l
tells_place Never latest.Never h = refl
tells_place (Once at kept) (latest.Once row s) h = ap Some h.0
tells_place (Tied kept) (latest.Tied a b s) h = refl
tells_place _ _ h = absurd h

pub tells_tied : (t : Trace) (l : Latest) → TellsTrace t l → is_tied_in t ≡ is_tied l
tells_tied Never latest.Never h = refl
tells_tied (Once at kept) (latest.Once row s) h = refl
tells_tied (Tied kept) (latest.Tied a b s) h = refl
tells_tied _ _ h = absurd h

pub tells_state : (t : Trace) (l : Latest) → TellsTrace t l → key_state_in t ≡ state_by l
tells_state Never latest.Never h = refl
tells_state (Once at kept) (latest.Once row s) h = refl
tells_state (Tied kept) (latest.Tied a b s) h = refl
tells_state _ _ h = absurd h

still : (ms : List (Option Record)) (row : ℕ) (key : Key) (t : Trace) → sequence_at ms key row ≡ None → TellsTrace t (latest_below ms key row) → TellsTrace t (latest_below ms key (row + 1))
still ms row key t none h = subst (λ l. TellsTrace t l) (sym (latest_other ms key row none)) h

pub traces_start : (g : Geometry) (ms : List (Option Record)) (traces : List Trace) → traces ≡ replicate (key_count g) Never → HasTraces g ms 0 traces
traces_start g ms traces e = record {
  size = ap length e ∙ length-replicate (key_count g) Never;
  at = λ key within. subst (λ l. TellsTrace (get_or traces (index_of g key) Never) l) (sym (latest_start ms key))
      (subst (λ t. TellsTrace t latest.Never) (sym (ap (λ ts. get_or ts (index_of g key) Never) e ∙ get_or-replicate (key_count g) (index_of g key) Never Never (index_within g key within))) tt);
}

pub traces_none : (g : Geometry) (ms : List (Option Record)) (row : ℕ) (traces : List Trace) → HasTraces g ms row traces → get_or ms row None ≡ None → HasTraces g ms (row + 1) traces
traces_none g ms row traces h e = record { size = h.size; at = λ key within. still ms row key (get_or traces (index_of g key) Never) (sequence_at-none ms key row e) (h.at key within) }

pub traces_outside : (g : Geometry) (ms : List (Option Record)) (row : ℕ) (traces : List Trace) (r : Record) → HasTraces g ms row traces → get_or ms row None ≡ Some r → (¬ IsKeyOf g (key_of r)) → HasTraces g ms (row + 1) traces
traces_outside g ms row traces r h e outside = record {
  size = h.size;
  at = λ key within.
      let ne : key_of r ≢ key = λ same. outside (subst (λ k. IsKeyOf g k) (sym same) within) in
      still ms row key (get_or traces (index_of g key) Never) (sequence_at-other ms key row r e ne) (h.at key within);
}

pub traces_set : (g : Geometry) (ms : List (Option Record)) (row i : ℕ) (traces : List Trace) (r : Record) (d new : Trace) → HasTraces g ms row traces → get_or ms row None ≡ Some r → IsKeyOf g (key_of r) → i ≡ index_of g (key_of r)
    → ((l : Latest) → TellsTrace (get_or traces i d) l → TellsTrace new (step l row (Some r.sequence))) → HasTraces g ms (row + 1) (set traces i new)
traces_set g ms row i traces r d new h e within at tells =
    let in_items : i < length traces = omega (arith, index_within g (key_of r) within, h.size, at) in
    let old : Latest = latest_below ms (key_of r) row in
    let read : get_or traces i d ≡ get_or traces (index_of g (key_of r)) Never = get_or_default traces i d Never in_items ∙ ap (λ j. get_or traces j Never) at in
    let more : latest_below ms (key_of r) (row + 1) ≡ step old row (Some r.sequence) = latest_more ms (key_of r) row ∙ ap (step old row) (sequence_at-key ms row r e) in
    let told : TellsTrace new (latest_below ms (key_of r) (row + 1)) = subst (λ l. TellsTrace new l) (sym more) (tells old (subst (λ t. TellsTrace t old) (sym read) (h.at (key_of r) within))) in
    let here : get_or (set traces i new) (index_of g (key_of r)) Never ≡ new = ap (λ j. get_or (set traces i new) j Never) (sym at) ∙ get_or-set_same traces i new Never in_items in
    record {
      size = length-set traces i new ∙ h.size;
      at = λ key k. elim (cases_key (key_of r) key) [
        | inl same ↦ subst (λ (x : Key). TellsTrace (get_or (set traces i new) (index_of g x) Never) (latest_below ms x (row + 1))) same (subst (λ t. TellsTrace t (latest_below ms (key_of r) (row + 1))) (sym here) told)
        | inr ne ↦
            (let apart : index_of g key ≢ i = λ eq. index_apart g (key_of r) key within k ne (sym at ∙ sym eq) in
            still ms row key (get_or (set traces i new) (index_of g key) Never) (sequence_at-other ms key row r e ne)
            (subst (λ t. TellsTrace t (latest_below ms key row)) (sym (get_or-set_other traces i (index_of g key) new Never apart)) (h.at key k)))
      ];
    }

-- ---- the keys by their places

-- the key in a place is one of the die, and has that place
pub record IsPlace (g : Geometry) (i : ℕ) : Type 0 where
  pub of : IsKeyOf g (key_at g i)
  pub index : index_of g (key_at g i) ≡ i

pub place_is : (g : Geometry) (i : ℕ) → i < key_count g → IsPlace g i
place_is g i l = elim (cases_lt i g.sectors) [
  | inl first ↦
      (let e : key_at g i ≡ Sector i = ap (λ b. cond b (Sector i) (cond (nat_lt (i - g.sectors) (translation_pages g)) (Translation (i - g.sectors)) (Table (i - g.sectors - translation_pages g)))) (lt-ltb i g.sectors first) in
      from (Sector i) e first refl)
  | inr past ↦
      (let next : key_at g i ≡ cond (nat_lt (i - g.sectors) (translation_pages g)) (Translation (i - g.sectors)) (Table (i - g.sectors - translation_pages g)) =
      ap (λ b. cond b (Sector i) (cond (nat_lt (i - g.sectors) (translation_pages g)) (Translation (i - g.sectors)) (Table (i - g.sectors - translation_pages g)))) (le-ltb i g.sectors past) in
      elim (cases_lt (i - g.sectors) (translation_pages g)) [
        | inl second ↦ from (Translation (i - g.sectors)) (next ∙ ap (λ b. cond b (Translation (i - g.sectors)) (Table (i - g.sectors - translation_pages g))) (lt-ltb (i - g.sectors) (translation_pages g) second)) second (omega arith)
        | inr third ↦ from (Table (i - g.sectors - translation_pages g)) (next ∙ ap (λ b. cond b (Translation (i - g.sectors)) (Table (i - g.sectors - translation_pages g))) (le-ltb (i - g.sectors) (translation_pages g) third)) (omega arith) (omega arith)
      ])
]
  where
    from : (key : Key) → key_at g i ≡ key → IsKeyOf g key → index_of g key ≡ i → IsPlace g i
    from key e of index = record { of = subst (λ k. IsKeyOf g k) (sym e) of; index = ap (index_of g) e ∙ index }

pub key_found : (g : Geometry) (key : Key) → IsKeyOf g key → key_at g (index_of g key) ≡ key
key_found g (Sector n) h = ap (λ b. cond b (Sector n) (cond (nat_lt (n - g.sectors) (translation_pages g)) (Translation (n - g.sectors)) (Table (n - g.sectors - translation_pages g)))) (lt-ltb n g.sectors h)
key_found g (Translation t) h =
    let i = g.sectors + t in
    let back : i - g.sectors ≡ t = omega arith in
    ap (λ b. cond b (Sector i) (cond (nat_lt (i - g.sectors) (translation_pages g)) (Translation (i - g.sectors)) (Table (i - g.sectors - translation_pages g)))) (le-ltb i g.sectors (omega arith))
    ∙ (ap (λ b. cond b (Translation (i - g.sectors)) (Table (i - g.sectors - translation_pages g))) (lt-ltb (i - g.sectors) (translation_pages g) (omega arith)) ∙ ap Translation back)
key_found g (Table u) h =
    let i = g.sectors + (translation_pages g + u) in
    let back : i - g.sectors - translation_pages g ≡ u = omega arith in
    ap (λ b. cond b (Sector i) (cond (nat_lt (i - g.sectors) (translation_pages g)) (Translation (i - g.sectors)) (Table (i - g.sectors - translation_pages g)))) (le-ltb i g.sectors (omega arith))
    ∙ (ap (λ b. cond b (Translation (i - g.sectors)) (Table (i - g.sectors - translation_pages g))) (le-ltb (i - g.sectors) (translation_pages g) (omega arith)) ∙ ap Table back)

-- what is held in a place is of its key
pub held_at : (g : Geometry) (ms : List (Option Record)) (rows i : ℕ) (traces : List Trace) (d : Trace) → HasTraces g ms rows traces → i < key_count g → TellsTrace (get_or traces i d) (latest_below ms (key_at g i) rows)
held_at g ms rows i traces d h l =
    let place = place_is g i l in
    let same : get_or traces i d ≡ get_or traces (index_of g (key_at g i)) Never = get_or_default traces i d Never (omega (arith, h.size)) ∙ ap (λ j. get_or traces j Never) (sym place.index) in
    subst (λ t. TellsTrace t (latest_below ms (key_at g i) rows)) (sym same) (h.at (key_at g i) place.of)

-- the row of its newest page
pub placed_at : (g : Geometry) (ms : List (Option Record)) (rows i : ℕ) (traces : List Trace) (key : Key) (d : Trace) → HasTraces g ms rows traces → IsKeyOf g key → i ≡ index_of g key → place_in_trace (get_or traces i d) ≡ place_of (latest_below ms key rows)
placed_at g ms rows i traces key d h of at =
    let same : get_or traces i d ≡ get_or traces (index_of g key) Never = get_or_default traces i d Never (omega (arith, h.size, index_within g key of)) ∙ ap (λ j. get_or traces j Never) at in
    ap place_in_trace same ∙ tells_place (get_or traces (index_of g key) Never) (latest_below ms key rows) (h.at key of)
