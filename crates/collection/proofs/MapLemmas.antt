-- What the directory and the mapping know of an image, as the image changes and as they follow it.
use Rattle.std.proofs.Common.{◌≡◌, ◌≢◌, ◌⊎◌, inl, inr, ℕ, ◌+◌, ◌/◌, ◌%◌, ◌<◌, List, length, set, slice_get, Option, Some, None, Result, Ok, Err, OnOk, OnErr, unwrap_or, refl, ap, sym, ◌∙◌, subst, arith}
use Rattle.std.specs.Option.{ForSome}
use Rattle.std.proofs.lemmas.Bool.{cases_eq}
use Rattle.page_layout.specs.declared.record.Record.{Record}
use Rattle.page_layout.specs.declared.record.Key.{Key}
use Rattle.page_layout.specs.declared.record.Key.TheVariants.{Sector, Translation, Table}
use Rattle.page_layout.specs.declared.geometry.Geometry.{Geometry}
use Rattle.page_layout.specs.Page.{Image, body_at}
use Rattle.page_layout.specs.Key.{key_of}
use Rattle.page_layout.specs.Geometry.{entries, translation_pages}
use Rattle.page_layout.specs.Live.{IsKeyOf}
use Rattle.page_layout.proofs.KeyLemmas.{cases_key}
use Rattle.mapping_cache.specs.Mapping.{MappingState, known, pending}
use Rattle.translation_pages.specs.TranslationPage.{entry_at}
use Rattle.translation_pages.specs.Entry.{entry_in, entry_of}
use Rattle.collection.specs.Pages.{directory_place, newest_row}
use Rattle.page_layout.specs.Change.{Keeps, Writes}
use Rattle.collection.specs.Maps.{Maps, IsPageFor}
use Rattle.page_layout.proofs.ArrayLemmas.{slice_get-set_same, slice_get-set_other}

-- an entry is the same where the newest page of its key is
entry_kept : (g : Geometry) (old new : Image) (n : ℕ) → newest_row new (Translation (n / entries g)) ≡ newest_row old (Translation (n / entries g))
    → ((q : ℕ) → newest_row old (Translation (n / entries g)) ≡ Some q → body_at new q ≡ body_at old q) → entry_of g new n ≡ entry_of g old n
unfolding entry_of
entry_kept g old new n same bodies = ap (entry_in new (n % entries g)) same ∙ at (newest_row old (Translation (n / entries g))) refl
  where
    at : (o : Option ℕ) → newest_row old (Translation (n / entries g)) ≡ o → entry_in new (n % entries g) o ≡ entry_in old (n % entries g) o
    at None is = refl
    at (Some q) is = ap (λ b. entry_at b (n % entries g)) (bodies q is)

pub entry_here : (g : Geometry) (image : Image) (n q : ℕ) → newest_row image (Translation (n / entries g)) ≡ Some q → entry_of g image n ≡ entry_at (body_at image q) (n % entries g)
unfolding entry_of
entry_here g image n q is = ap (entry_in image (n % entries g)) is

pub entry_none : (g : Geometry) (image : Image) (n : ℕ) → newest_row image (Translation (n / entries g)) ≡ None → entry_of g image n ≡ None
unfolding entry_of
entry_none g image n is = ap (entry_in image (n % entries g)) is

pub none_not : (key : Key) → None ≢ Some key
none_not key e = cc

-- ---- the die changed

pub maps_stays : (but : Option Key) (g : Geometry) (old new : Image) (directory : List (Option ℕ)) (m : MappingState) → Keeps g old new → Maps but g old directory m → Maps but g new directory m
maps_stays but g old new directory m s w = record {
  directory_is = λ key at lt ne is. w.directory_is key at lt ne is ∙ ap Some (sym (s.newest_same key));
  known_is = λ n row ne is. w.known_is n row ne is ∙ sym (s.newest_same (Sector n));
  entry_is = λ n lt ne is. entry_kept g old new n (s.newest_same (Translation (n / entries g))) (s.bodies (Translation (n / entries g))) ∙ (w.entry_is n lt ne is ∙ sym (s.newest_same (Sector n)));
}

pub maps_put : (g : Geometry) (r : Record) (row : ℕ) (body : List ℕ) (old new : Image) (directory : List (Option ℕ)) (m : MappingState) → Writes g r row body old new → IsPageFor g old m body (key_of r) → Maps None g old directory m → Maps (Some (key_of r)) g new directory m
maps_put g r row body old new directory m p fits w = record {
  directory_is = λ key at lt ne is. w.directory_is key at lt (none_not key) is ∙ ap Some (sym (p.newest_others key (λ e. ne (ap Some e))));
  known_is = λ n q ne is. w.known_is n q (none_not (Sector n)) is ∙ sym (p.newest_others (Sector n) (λ e. ne (ap Some e)));
  entry_is = λ n lt ne is.
      let newest_is : newest_row new (Sector n) ≡ newest_row old (Sector n) = p.newest_others (Sector n) (λ e. ne (ap Some e)) in
      elim (cases_key (key_of r) (Translation (n / entries g))) [
        | inl same ↦
            let now : newest_row new (Translation (n / entries g)) ≡ Some row = ap (newest_row new) (sym same) ∙ p.newest_now in
            let right : IsPageFor g old m body (Translation (n / entries g)) = (let P : Key → Type 0 = λ k. IsPageFor g old m body k in subst P same fits) in
            entry_here g new n row now ∙ (ap (λ b. entry_at b (n % entries g)) p.here ∙ (right n lt refl is ∙ sym newest_is))
        | inr other ↦ entry_kept g old new n (p.newest_others (Translation (n / entries g)) other) (λ q. p.bodies (Translation (n / entries g)) q other) ∙ (w.entry_is n lt (none_not (Sector n)) is ∙ sym newest_is)
      ];
}

-- ---- the memory follows

-- a sector's entry: by set_dirty, by move_entry
pub maps_entry : (g : Geometry) (image : Image) (directory : List (Option ℕ)) (m m' : MappingState) (k : ℕ) (row : Option ℕ)
    → Maps (Some (Sector k)) g image directory m → newest_row image (Sector k) ≡ row → known m' k ≡ Some row → pending m' k ≡ Some row
    → ((n : ℕ) → n ≢ k → known m' n ≡ known m n) → ((n : ℕ) → n ≢ k → pending m' n ≡ pending m n) → Maps None g image directory m'
maps_entry g image directory m m' k row w here known_now pending_now known_others pending_others = record {
  directory_is = λ key at lt ne is. w.directory_is key at lt (meta key at is) is;
  known_is = λ n q ne is. elim (cases_eq n k) [
    | inl same ↦ (let e : known m' n ≡ Some row = ap (known m') same ∙ known_now in let f : newest_row image (Sector n) ≡ row = ap (λ j. newest_row image (Sector j)) same ∙ here in cc)
    | inr other ↦ w.known_is n q (apart n other) (sym (known_others n other) ∙ is)
  ];
  entry_is = λ n lt ne is. elim (cases_eq n k) [
    | inl same ↦ (let e : pending m' n ≡ Some row = ap (pending m') same ∙ pending_now in let no : ⊥ = cc in absurd no)
    | inr other ↦ w.entry_is n lt (apart n other) (sym (pending_others n other) ∙ is)
  ];
}
  where
    apart : (n : ℕ) → n ≢ k → Some (Sector k) ≢ Some (Sector n)
    apart n ne e = (let same : n ≡ k = cc in ne same)

    meta : (key : Key) (at : ℕ) → directory_place g key ≡ Some at → Some (Sector k) ≢ Some key
    meta key at is e = (let same : directory_place g (Sector k) ≡ directory_place g key = ap (directory_place g) (let s : Sector k ≡ key = cc in s) in let no : ⊥ = cc in no)

-- a sector is cached, or was not
pub maps_loaded : (g : Geometry) (image : Image) (directory : List (Option ℕ)) (m m' : MappingState) (k : ℕ) (row : Option ℕ)
    → Maps None g image directory m → row ≡ newest_row image (Sector k) → (known m' k ≡ Some (unwrap_or (known m k) row)) ⊎ (m' ≡ m)
    → ((n : ℕ) → n ≢ k → ForSome (known m' n) (λ r. known m n ≡ Some r)) → ((n : ℕ) → pending m' n ≡ pending m n) → Maps None g image directory m'
maps_loaded g image directory m m' k row w here now others same = record {
  directory_is = w.directory_is;
  known_is = λ n q ne is. elim (cases_eq n k) [
    | inl at ↦ elim now [
      | inl loaded ↦ (let e : Some (unwrap_or (known m k) row) ≡ Some q = sym loaded ∙ (ap (known m') (sym at) ∙ is) in subst (λ j. q ≡ newest_row image (Sector j)) (sym at) (by (known m k) refl q e))
      | inr kept ↦ w.known_is n q (none_not (Sector n)) (ap (λ z. known z n) (sym kept) ∙ is)
    ]
    | inr other ↦ w.known_is n q (none_not (Sector n)) (others n other q is)
  ];
  entry_is = λ n lt ne none. w.entry_is n lt (none_not (Sector n)) (sym (same n) ∙ none);
}
  where
    by : (o : Option (Option ℕ)) → known m k ≡ o → (q : Option ℕ) → Some (unwrap_or o row) ≡ Some q → q ≡ newest_row image (Sector k)
    by None is q e = (let f : row ≡ q = cc in sym f ∙ here)
    by (Some r) is q e = (let f : r ≡ q = cc in sym f ∙ w.known_is k r (none_not (Sector k)) is)

pub loaded_or_kept : {A E : Type 0} (result : Result A E) (P Q : Type 0) → OnOk result P → OnErr result Q → P ⊎ Q
loaded_or_kept (Ok a) P Q p q = inl p
loaded_or_kept (Err e) P Q p q = inr q

-- two keys don't share a place
pub places_apart : (g : Geometry) (a b : Key) (i : ℕ) → IsKeyOf g a → IsKeyOf g b → directory_place g a ≡ Some i → directory_place g b ≡ Some i → a ≡ b
places_apart g (Translation t) (Translation s) i la lb x y = (let e : t ≡ s = cc in ap Translation e)
places_apart g (Table t) (Table s) i la lb x y =
    let e : Some (translation_pages g + t) ≡ Some (translation_pages g + s) = x ∙ sym y in
    let f : translation_pages g + t ≡ translation_pages g + s = cc in
    let same : t ≡ s = omega arith in
    ap Table same
places_apart g (Translation t) (Table s) i la lb x y =
    let e : Some t ≡ Some (translation_pages g + s) = x ∙ sym y in
    let f : t ≡ translation_pages g + s = cc in
    absurd (omega arith)
places_apart g (Table s) (Translation t) i la lb x y =
    let e : Some (translation_pages g + s) ≡ Some t = x ∙ sym y in
    let f : translation_pages g + s ≡ t = cc in
    absurd (omega arith)
places_apart g (Sector n) b i la lb x y = (let no : ⊥ = cc in absurd no)
places_apart g (Translation t) (Sector n) i la lb x y = (let no : ⊥ = cc in absurd no)
places_apart g (Table t) (Sector n) i la lb x y = (let no : ⊥ = cc in absurd no)

-- a row of the directory
pub maps_directory : (g : Geometry) (image : Image) (directory : List (Option ℕ)) (m : MappingState) (key : Key) (i : ℕ) (row : Option ℕ)
    → Maps (Some key) g image directory m → IsKeyOf g key → directory_place g key ≡ Some i → i < length directory → newest_row image key ≡ row
    → Maps None g image (set directory i row) m
maps_directory g image directory m key i row w of_key place within here = record {
  directory_is = λ k at lt ne is. elim (cases_key key k) [
    | inl same ↦
        let e : Some i ≡ Some at = sym place ∙ (ap (directory_place g) same ∙ is) in
        let ia : i ≡ at = cc in
        ap (slice_get (set directory i row)) (sym ia) ∙ (slice_get-set_same directory i row within ∙ ap Some (sym here ∙ ap (newest_row image) same))
    | inr other ↦ slice_get-set_other directory i at row (λ e. other (places_apart g key k i of_key lt place (is ∙ ap Some e))) ∙ w.directory_is k at lt (λ e. other (let s : key ≡ k = cc in s)) is
  ];
  known_is = λ n q ne is. w.known_is n q (sector n) is;
  entry_is = λ n lt ne is. w.entry_is n lt (sector n) is;
}
  where
    sector : (n : ℕ) → Some key ≢ Some (Sector n)
    sector n e = (let same : key ≡ Sector n = cc in let p : directory_place g key ≡ None = ap (directory_place g) same in let no : ⊥ = cc in no)

-- translation page t has every row of its sectors, and the mapping forgets that it lacked some
pub maps_clean : (g : Geometry) (image : Image) (directory : List (Option ℕ)) (m m' : MappingState) (t : ℕ) → Maps None g image directory m
    → ((n : ℕ) → n < g.sectors → n / entries g ≡ t → entry_of g image n ≡ newest_row image (Sector n))
    → ((n : ℕ) (row : Option ℕ) → known m' n ≡ Some row → known m n ≡ Some row) → ((n : ℕ) → n / entries g ≢ t → pending m' n ≡ pending m n)
    → Maps None g image directory m'
maps_clean g image directory m m' t w written knows others = record {
  directory_is = w.directory_is;
  known_is = λ n q ne is. w.known_is n q ne (knows n q is);
  entry_is = λ n lt ne is. elim (cases_eq (n / entries g) t) [
    | inl same ↦ written n lt same
    | inr other ↦ w.entry_is n lt ne (sym (others n other) ∙ is)
  ];
}
