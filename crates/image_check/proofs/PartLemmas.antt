-- From the survey to the parts of the agreement.
use Rattle.std.proofs.Common.{◌≡◌, ◌≢◌, ℕ, zero, suc, ◌+◌, ◌-◌, ◌<◌, All, Bool, true, false, List, [], ◌∷◌, ◌++◌, length, get_or, Option, Some, None}
use Rattle.std.proofs.Common.{refl, sym, ap, subst, ◌∙◌, arith, inl, inr, slice_get}
use Rattle.std.proofs.lemmas.Bool.{cases_order, cases_lt}
use Rattle.std.proofs.lemmas.List.{get_or_past}
use Rattle.std.proofs.lemmas.List.Elements.{All-append, All-nil}
use Rattle.page_layout.specs.declared.geometry.Geometry.{Geometry}
use Rattle.page_layout.specs.declared.record.Record.{Record}
use Rattle.page_layout.specs.declared.record.Key.{Key}
use Rattle.page_layout.specs.declared.record.Key.TheVariants.{Sector, Translation, Table}
use Rattle.image_check.specs.declared.newest.Newest.{Newest}
use Rattle.image_check.specs.Newest.{place_in, no_newest}
use Rattle.page_layout.specs.Geometry.{row_count, translation_pages, table_pages}
use Rattle.page_layout.specs.Greatest.{place_of}
use Rattle.page_layout.specs.Page.{Image}
use Rattle.page_layout.specs.OneArray.{AreDistinct, AreBelow}
use Rattle.page_layout.specs.Newest.{newest, latest_below}
use Rattle.page_layout.specs.Live.{IsKeyOf}
use Rattle.page_layout.specs.Array.{marks}
use Rattle.page_layout.proofs.ArrayLemmas.{length-marks, latest-newest}
use Rattle.std.specs.Prelude.{unwrap_or}
use Rattle.certificate.specs.Claim.{Claim}
use Rattle.page_layout.specs.Newest.{sequence_at}
use Rattle.page_layout.proofs.GreatestLemmas.{IsInjective, some_greatest}
use Rattle.page_layout.proofs.NewestLemmas.{newest-is, IsOf, sequence_at-is, sequence_at_past, newest_from}
use Rattle.image_check.specs.declared.refusal.Refusal.TheVariants as refusals
use Rattle.image_check.specs.Survey.{index_of, HasNewest, HasOutside, IsFirstOutside, pair_of, pairs_below, HasPassed, HoldsSectorPage, AreClaimed}
use Rattle.image_check.specs.Agrees.{AreInRange, AreNewest, IsDirectory}
use Rattle.image_check.specs.Refused.{IsDirectoryWrong, IsWrong, Numbers, Directory, Sectors}
use Rattle.image_check.proofs.TellLemmas.{tells_place}
use Rattle.image_check.proofs.SurveyLemmas.{newest_at}

pub mark_within : (ms : List (Option Record)) (row : ℕ) (r : Record) → get_or ms row None ≡ Some r → row < length ms
mark_within ms row r e = elim (cases_lt row (length ms)) [
  | inl within ↦ within
  | inr past ↦ absurd (let clash : None ≡ Some r = sym (get_or_past ms row None past) ∙ e in cc)
]

pub in_rows : (g : Geometry) (image : Image) (row : ℕ) (r : Record) → length image ≡ row_count g → get_or (marks image) row None ≡ Some r → row < row_count g
in_rows g image row r whole e = let l = mark_within (marks image) row r e in omega (arith, length-marks image)

-- ---- numbers

pub numbers_hold : (g : Geometry) (image : Image) (outside : Option ℕ) → length image ≡ row_count g → HasOutside g (marks image) (row_count g) outside → outside ≡ None → AreInRange g (marks image)
numbers_hold g image outside whole h none =
    let all : HasOutside g (marks image) (row_count g) None = subst (λ o. HasOutside g (marks image) (row_count g) o) none h in
    record { in_range = λ row r e. all row r (in_rows g image row r whole e) e }

-- ---- the next sequence

All-left : {X : Type 0} (P : X → Type 0) (xs ys : List X) → All P (xs ++ ys) → All P xs
All-left P [] ys h k d l = absurd (omega arith)
All-left P (x ∷ xs) ys h zero d l = h zero d (omega arith)
All-left P (x ∷ xs) ys h (suc k) d l = All-left P xs ys (λ j e m. h (suc j) e (omega arith)) k d (omega arith)

All-last : {X : Type 0} (P : X → Type 0) (xs : List X) (x : X) → All P (xs ++ x ∷ []) → P x
All-last P [] x h = h zero x (omega arith)
All-last P (y ∷ xs) x h = All-last P xs x (λ j e m. h (suc j) e (omega arith))

All-one : {X : Type 0} (P : X → Type 0) (x : X) → P x → All P (x ∷ [])
All-one P x h zero d l = h
All-one P x h (suc k) d l = absurd (omega arith)

one_low : (row next : ℕ) (o : Option Record) → ((r : Record) → o ≡ Some r → r.sequence < next) → All (λ (p : ℕ × ℕ). p.0 < next) (pair_of row o)
one_low row next None h = All-nil (λ (p : ℕ × ℕ). p.0 < next)
one_low row next (Some r) h = All-one (λ (p : ℕ × ℕ). p.0 < next) (r.sequence, row) (h r refl)

pub pairs_low : (ms : List (Option Record)) (rows next : ℕ) → ((row : ℕ) (r : Record) → get_or ms row None ≡ Some r → r.sequence < next) → All (λ (p : ℕ × ℕ). p.0 < next) (pairs_below ms rows)
unfolding pairs_below
pairs_low ms zero next h = All-nil (λ (p : ℕ × ℕ). p.0 < next)
pairs_low ms (suc row) next h = All-append (λ (p : ℕ × ℕ). p.0 < next) (pairs_below ms row) (pair_of row (get_or ms row None)) (pairs_low ms row next h) (one_low row next (get_or ms row None) (h row))

pub low_pairs : (ms : List (Option Record)) (rows next : ℕ) → All (λ (p : ℕ × ℕ). p.0 < next) (pairs_below ms rows) → (row : ℕ) (r : Record) → row < rows → get_or ms row None ≡ Some r → r.sequence < next
unfolding pairs_below
low_pairs ms zero next h row r l e = absurd (omega arith)
low_pairs ms (suc last) next h row r l e = elim (cases_order row last) [
  | inl same ↦
      let at : get_or ms last None ≡ Some r = subst (λ k. get_or ms k None ≡ Some r) same e in
      All-last (λ (p : ℕ × ℕ). p.0 < next) (pairs_below ms last) (r.sequence, last) (subst (λ o. All (λ (p : ℕ × ℕ). p.0 < next) (pairs_below ms last ++ pair_of last o)) at h)
  | inr (inl below) ↦ low_pairs ms last next (All-left (λ (p : ℕ × ℕ). p.0 < next) (pairs_below ms last) (pair_of last (get_or ms last None)) h) row r below e
  | inr (inr above) ↦ absurd (omega arith)
]

pub next_holds : (g : Geometry) (image : Image) (pairs : List (ℕ × ℕ)) (next : ℕ) → length image ≡ row_count g → pairs ≡ pairs_below (marks image) (row_count g) → All (λ (p : ℕ × ℕ). p.0 < next) pairs → AreBelow (marks image) next
next_holds g image pairs next whole is h =
    let all = subst (λ ps. All (λ (p : ℕ × ℕ). p.0 < next) ps) is h in
    record { below = λ row r e. low_pairs (marks image) (row_count g) next all row r (in_rows g image row r whole e) e }

pub next_needs : (g : Geometry) (image : Image) (pairs : List (ℕ × ℕ)) (next : ℕ) → pairs ≡ pairs_below (marks image) (row_count g) → AreBelow (marks image) next → All (λ (p : ℕ × ℕ). p.0 < next) pairs
next_needs g image pairs next is h = subst (λ ps. All (λ (p : ℕ × ℕ). p.0 < next) ps) (sym is) (pairs_low (marks image) (row_count g) next h.below)

-- ---- newest rows

-- the row that the survey has for a key is that of its newest page
pub surveyed_row : (g : Geometry) (image : Image) (items : List Newest) (i : ℕ) (key : Key) (d : Newest) → length image ≡ row_count g → HasNewest g (marks image) (row_count g) items → IsKeyOf g key → i ≡ index_of g key → place_in (get_or items i d) ≡ newest (marks image) key
surveyed_row g image items i key d whole h within at =
    let rows : row_count g ≡ length (marks image) = sym (length-marks image ∙ whole) in
    tells_place (get_or items i d) (latest_below (marks image) key (row_count g)) (newest_at g (marks image) (row_count g) i items key d h within at) ∙ (ap (λ n. place_of (latest_below (marks image) key n)) rows ∙ sym (latest-newest (marks image) key))

-- each sector's row is that of the survey
pub sectors_hold : (g : Geometry) (image : Image) (items : List Newest) (rows : List (Option ℕ)) → length image ≡ row_count g
    → HasNewest g (marks image) (row_count g) items → ((n : ℕ) → n < g.sectors → slice_get rows n ≡ Some (place_in (get_or items n no_newest)))
    → AreNewest g image rows
sectors_hold g image items rows whole h same = record {
  newest_is = λ n k. same n k ∙ ap Some (surveyed_row g image items n (Sector n) no_newest whole h k refl);
}

-- the directory's rows are those of the survey
pub directory_holds : (g : Geometry) (image : Image) (items : List Newest) (rows : List (Option ℕ)) → length image ≡ row_count g → HasNewest g (marks image) (row_count g) items
    → ((i : ℕ) → i < translation_pages g + table_pages g → slice_get rows i ≡ Some (place_in (get_or items (g.sectors + i) no_newest))) → IsDirectory g image rows
directory_holds g image items rows whole h same = record {
  translation = λ t k. same t (omega arith) ∙ ap Some (surveyed_row g image items (g.sectors + t) (Translation t) no_newest whole h k refl);
  table = λ u k. same (translation_pages g + u) (omega arith) ∙ ap Some (surveyed_row g image items (g.sectors + (translation_pages g + u)) (Table u) no_newest whole h k refl);
}

some_same : (a b : Option ℕ) → Some a ≡ Some b → a ≡ b
some_same a b e = cc

pub record Surveyed (g : Geometry) (image : Image) (items : List Newest) : Type 0 where
  pub whole : length image ≡ row_count g
  pub noted : HasNewest g (marks image) (row_count g) items

-- a row that differs from the survey's isn't the newest
pub differs : (g : Geometry) (image : Image) (items : List Newest) (rows : List (Option ℕ)) (place i : ℕ) (key : Key) (d : Newest)
    (claimed : Option ℕ) → Surveyed g image items → IsKeyOf g key → i ≡ index_of g key → slice_get rows place ≡ Some claimed
    → place_in (get_or items i d) ≢ claimed → slice_get rows place ≢ Some (newest (marks image) key)
differs g image items rows place i key d claimed h within at is ne e =
    let row = surveyed_row g image items i key d h.whole h.noted within at in
    ne (row ∙ some_same (newest (marks image) key) claimed (sym e ∙ is))

-- the same for a row of the directory
pub directory_differs : (g : Geometry) (image : Image) (items : List Newest) (rows : List (Option ℕ)) (place i : ℕ) (d : Newest) (claimed : Option ℕ)
    → Surveyed g image items → place < translation_pages g + table_pages g → i ≡ g.sectors + place → slice_get rows place ≡ Some claimed
    → place_in (get_or items i d) ≢ claimed → IsDirectoryWrong g image rows place
directory_differs g image items rows place i d claimed h within at is ne = elim (cases_lt place (translation_pages g)) [
  | inl below ↦ inl (below, differs g image items rows place i (Translation place) d claimed h below at is ne)
  | inr above ↦
      let u : ℕ = place - translation_pages g in
      let k : u < table_pages g = omega arith in
      inr (u, k, omega arith, differs g image items rows place i (Table u) d claimed h k (omega arith) is ne)
]

-- ---- what each refusal says

pub numbers_wrong : (g : Geometry) (capacity : ℕ) (image : Image) (claim : Claim) (outside : Option ℕ) (row : ℕ) → HasOutside g (marks image) (row_count g) outside → outside ≡ Some row → IsWrong g capacity image claim Numbers (refusals.NumberRange row)
numbers_wrong g capacity image claim outside row h is =
    let f : IsFirstOutside g (marks image) row = subst (λ o. HasOutside g (marks image) (row_count g) o) is h in
    record {
      part_is = refl;
      fails = λ (all : AreInRange g (marks image)). f.at.outside (all.in_range row f.at.found f.at.here);
      says = f;
    }

-- a row of the directory that is the survey's isn't wrong
directory_right : (g : Geometry) (image : Image) (items : List Newest) (rows : List (Option ℕ)) (place : ℕ) → Surveyed g image items → slice_get rows place ≡ Some (place_in (get_or items (g.sectors + place) no_newest)) → IsDirectoryWrong g image rows place → ⊥
directory_right g image items rows place h same (inl w) = w.1 (same ∙ ap Some (surveyed_row g image items (g.sectors + place) (Translation place) no_newest h.whole h.noted w.0 refl))
directory_right g image items rows place h same (inr w) = w.3 (same ∙ ap Some (surveyed_row g image items (g.sectors + place) (Table w.0) no_newest h.whole h.noted w.1 (ap (λ k. g.sectors + k) w.2)))

directory_fails : (g : Geometry) (image : Image) (rows : List (Option ℕ)) (place : ℕ) → IsDirectoryWrong g image rows place → IsDirectory g image rows → ⊥
directory_fails g image rows place (inl w) all = w.1 (all.translation place w.0)
directory_fails g image rows place (inr w) all = w.3 (ap (λ k. slice_get rows k) w.2 ∙ all.table w.0 w.1)

pub directory_wrong : (g : Geometry) (capacity : ℕ) (image : Image) (items : List Newest) (c : Claim) (place i : ℕ) (d : Newest) (claimed : Option ℕ)
    → Surveyed g image items → place < translation_pages g + table_pages g → i ≡ g.sectors + place → slice_get c.directory place ≡ Some claimed
    → place_in (get_or items i d) ≢ claimed
    → ((j : ℕ) → j < place → slice_get c.directory j ≡ Some (place_in (get_or items (g.sectors + j) no_newest))) → IsWrong g capacity image c Directory (refusals.DirectoryWrong place)
directory_wrong g capacity image items c place i d claimed h within at is ne earlier =
    let w = directory_differs g image items c.directory place i d claimed h within at is ne in
    record {
      part_is = refl;
      fails = directory_fails g image c.directory place w;
      says = record { wrong = w; before = λ j l. directory_right g image items c.directory j h (earlier j l) };
    }

-- ---- the sectors

-- the rows that are claimed for the first n sectors passed
pub record ArePassed (n : ℕ) (claims : List (Option ℕ)) (passed : List Bool) : Type 0 where
  pub each : (m row : ℕ) → m < n → slice_get claims m ≡ Some (Some row) → get_or passed m false ≡ true

pub passed_start : (claims : List (Option ℕ)) (passed : List Bool) → ArePassed 0 claims passed
passed_start claims passed = record { each = λ m row l e. absurd (omega arith) }

pub passed_more : (n : ℕ) (claims : List (Option ℕ)) (passed : List Bool) (claim : Option ℕ) → ArePassed n claims passed → slice_get claims n ≡ Some claim → ((row : ℕ) → claim ≡ Some row → get_or passed n false ≡ true) → ArePassed (n + 1) claims passed
passed_more n claims passed claim h at is = record {
  each = λ m row l e. elim (cases_order m n) [
    | inl same ↦
        let here : slice_get claims n ≡ Some (Some row) = subst (λ k. slice_get claims k ≡ Some (Some row)) same e in
        let eq : claim ≡ Some row = (let both : Some claim ≡ Some (Some row) = sym at ∙ here in cc) in
        subst (λ k. get_or passed k false ≡ true) (sym same) (is row eq)
    | inr (inl below) ↦ h.each m row below e
    | inr (inr above) ↦ absurd (omega arith)
  ];
}

pub claims_hold : (g : Geometry) (image : Image) (n : ℕ) (claims : List (Option ℕ)) (passed : List Bool) → ArePassed n claims passed → HasPassed (marks image) (row_count g) claims passed → AreClaimed n (marks image) claims
claims_hold g image n claims passed h passes = record { page = λ m row l e. passes.yes m row e (h.each m row l e) }

-- a row at which no sound page of the sector stands isn't its newest
none_newest : (marks : List (Option Record)) (n row : ℕ) → sequence_at marks (Sector n) row ≡ None → newest marks (Sector n) ≡ Some row → ⊥
none_newest marks n row none e = let is = newest-is marks (Sector n) row e in let clash : None ≡ Some is.value = sym none ∙ is.here in cc

pub no_such_record : (g : Geometry) (capacity : ℕ) (image : Image) (c : Claim) (n row : ℕ) (passed : List Bool) → length image ≡ row_count g
    → g.sectors ≡ length c.sectors → HasPassed (marks image) (row_count g) c.sectors passed → ArePassed n c.sectors passed → n < length c.sectors
    → slice_get c.sectors n ≡ Some (Some row) → get_or passed n false ≡ false → IsWrong g capacity image c Sectors (refusals.NoSuchRecord n row)
no_such_record g capacity image c n row passed whole size passes h within at not_passed =
    let missing : sequence_at (marks image) (Sector n) row ≡ None = elim (cases_lt row (row_count g)) [
      | inl below ↦ passes.no n row at below not_passed
      | inr past ↦ (sequence_at_past (marks image) (Sector n)).all row (omega (arith, length-marks image))
    ] in
    record {
      part_is = refl;
      fails = λ (all : AreNewest g image c.sectors). let e = all.newest_is n (omega arith) in none_newest (marks image) n row missing (let both : Some (Some row) ≡ Some (newest (marks image) (Sector n)) = sym at ∙ e in cc);
      says = record { within = omega arith; claimed = at; missing = missing; before = claims_hold g image n c.sectors passed h passes };
    }

-- under distinct sequences a sector of which there is a sound page has a newest one
has_newest : (marks : List (Option Record)) (n row : ℕ) → AreDistinct marks → HoldsSectorPage marks n row → newest marks (Sector n) ≡ None → ⊥
has_newest marks n row distinct h none =
    let injective : IsInjective (sequence_at marks (Sector n)) = record {
      apart = λ a b s x y.
          let p : IsOf (Sector n) (get_or marks a None) s = sequence_at-is marks (Sector n) a s x in
          let q : IsOf (Sector n) (get_or marks b None) s = sequence_at-is marks (Sector n) b s y in
          distinct.apart a b p.its q.its p.is q.is (p.sequence_is ∙ sym q.sequence_is);
    } in
    let found = some_greatest (sequence_at marks (Sector n)) (length marks) row h.sequence (sequence_at_past marks (Sector n)) injective h.here in
    let e : newest marks (Sector n) ≡ Some found.0 = newest_from marks (Sector n) found.0 found.1 in
    let clash : None ≡ Some found.0 = sym none ∙ e in cc

pub not_newest : (g : Geometry) (capacity : ℕ) (image : Image) (items : List Newest) (c : Claim) (n : ℕ) (d : Newest) (seen claimed : Option ℕ)
    → Surveyed g image items → AreDistinct (marks image) → AreClaimed (length c.sectors) (marks image) c.sectors → length c.sectors ≡ g.sectors
    → n < g.sectors → slice_get c.sectors n ≡ Some claimed → seen ≡ place_in (get_or items n d) → seen ≢ claimed
    → ((m : ℕ) → m < n → slice_get c.sectors m ≡ Some (place_in (get_or items m no_newest))) → IsWrong g capacity image c Sectors (refusals.NotNewest n (unwrap_or seen 0))
not_newest g capacity image items c n d seen claimed h distinct claims size within at is ne earlier =
    by_newest (newest (marks image) (Sector n)) seen refl (is ∙ surveyed_row g image items n (Sector n) d h.whole h.noted within refl) claimed ne at
  where
    wrong : (row : ℕ) (claim : Option ℕ) → newest (marks image) (Sector n) ≡ Some row → slice_get c.sectors n ≡ Some claim → Some row ≢ claim → IsWrong g capacity image c Sectors (refusals.NotNewest n row)
    wrong row claim is at' ne' = record {
      part_is = refl;
      fails = λ (all : AreNewest g image c.sectors). ne' (let both : Some claim ≡ Some (newest (marks image) (Sector n)) = sym at' ∙ all.newest_is n within in cc);
      says = record {
        within = within;
        newest_is = is;
        claimed = λ e. ne' (let both : Some claim ≡ Some (Some row) = sym at' ∙ e in cc);
        before = λ m l. earlier m l ∙ ap Some (surveyed_row g image items m (Sector m) no_newest h.whole h.noted (omega arith) refl);
        there = claims;
      };
    }

    by_newest : (real seen : Option ℕ) → newest (marks image) (Sector n) ≡ real → seen ≡ real → (claim : Option ℕ) → seen ≢ claim → slice_get c.sectors n ≡ Some claim → IsWrong g capacity image c Sectors (refusals.NotNewest n (unwrap_or seen 0))
    by_newest (Some row) seen e s claim ne' at' = subst (λ o. IsWrong g capacity image c Sectors (refusals.NotNewest n (unwrap_or o 0))) (sym s) (wrong row claim e at' (λ x. ne' (s ∙ x)))
    by_newest None seen e s None ne' at' = absurd (ne' s)
    by_newest None seen e s (Some row) ne' at' = absurd (has_newest (marks image) n row distinct (claims.page n row (omega arith) at') e)
