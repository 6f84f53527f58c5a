-- WHERE A NAME IS CUT FROM ITS FOLDER: at the last slash, and nowhere else.
use Rattle.std.proofs.Common.{◌≡◌, ℕ, zero, suc, ◌+◌, List, [], ◌∷◌, ◌++◌, length, get_or, take, drop, codes, None, Some, refl, subst, sym, ap, ap₂, ◌∙◌, arith, append_assoc, length-append, get_or-append-add, take-append-drop, inl, inr, ⊎_elim}
use Rattle.std.specs.Path.{slash}
use Rattle.std.specs.Str.Pattern.{RFindsChar}
use Rattle.std.proofs.lemmas.List.{append_cancel_right}
use Rattle.std.proofs.lemmas.Str.Pattern.{NoCharPasses-char, drop_at_char}
use Rattle.part_files.specs.PartNames.{IsFolder, HasNoSlash, IsPartName, part_name_behind, PartApartLaw, PartOnceLaw, PathOnceLaw}

-- behind a slash
pub named_behind : (path program folder name part : List ℕ) → (path ≡ folder ++ slash ∷ name) → HasNoSlash name →
    part ≡ folder ++ (codes "/." ++ (name ++ (codes "." ++ (program ++ codes "-part")))) → IsPartName path program part
named_behind path program folder name part path_is lacks part_is =
    record {
      folder = folder ++ (slash ∷ []);
      name = name;
      path_is = path_is ∙ sym (append_assoc folder (slash ∷ []) name);
      part_is = part_is ∙ sym (append_assoc folder (slash ∷ []) (part_name_behind name program));
      is_folder = inr (folder, refl);
      no_slash = lacks;
    }

-- where there is none
pub named_alone : (path program part : List ℕ) → HasNoSlash path → part ≡ part_name_behind path program → IsPartName path program part
named_alone path program part lacks part_is =
    record { folder = []; name = path; path_is = refl; part_is = part_is; is_folder = inl refl; no_slash = lacks }

-- what a split at the last slash leaves
pub split_at : (path folder name : List ℕ) (i j : ℕ) → RFindsChar slash path (Some (i, j)) → folder ≡ take i path → name ≡ drop j path → (path ≡ folder ++ slash ∷ name) × HasNoSlash name
split_at path folder name i j found front back = (
  sym (take-append-drop i path) ∙ ap₂ (λ a b. a ++ b) (sym front) (drop_at_char slash path i j found.1 (omega arith) ∙ ap (λ b. slash ∷ b) (sym back)),
  subst HasNoSlash (sym back) (λ k. NoCharPasses-char slash (drop j path) k found.0 (omega arith)),
)

pub not_split : (path : List ℕ) → RFindsChar slash path None → HasNoSlash path
not_split path none = λ i. NoCharPasses-char slash path i none (omega arith)

-- a slash is in a name that goes on behind a folder
no_slash_within : (front rest name : List ℕ) → name ≡ (front ++ slash ∷ []) ++ rest → HasNoSlash name → ⊥
no_slash_within front rest name is none =
    let whole : name ≡ front ++ slash ∷ rest = is ∙ append_assoc front (slash ∷ []) rest in
    none (length front + 0) (omega (arith, ap length whole, length-append front (slash ∷ rest))) (ap (λ l. get_or l (length front + 0) 0) whole ∙ get_or-append-add front (slash ∷ rest) 0 0)

not_empty : (first : ℕ) (others : List ℕ) → first ∷ others ≡ [] → ⊥
not_empty first others e = absurd (omega (arith, ap length e))

-- a folder without its first byte
folder_behind : (first : ℕ) (others front : List ℕ) → first ∷ others ≡ front ++ slash ∷ [] → IsFolder others
folder_behind first others [] e = inl (ap (λ l. drop 1 l) e)
folder_behind first others (one ∷ front) e = inr (front, ap (λ l. drop 1 l) e)

folder_tail : (first : ℕ) (others : List ℕ) → IsFolder (first ∷ others) → IsFolder others
folder_tail first others = ⊎_elim (λ none. absurd (not_empty first others none)) (λ some. folder_behind first others some.0 some.1)

-- no name without a slash begins with a folder
no_folder_within : (first : ℕ) (others name rest : List ℕ) → IsFolder (first ∷ others) → HasNoSlash name → name ≡ first ∷ others ++ rest → ⊥
no_folder_within first others name rest folder none e =
    ⊎_elim (λ empty. absurd (not_empty first others empty)) (λ some. no_slash_within some.0 rest name (e ∙ ap (λ l. l ++ rest) some.1) none) folder

-- a text is cut at its last slash in one way
pub cut_once : (folder other name rest : List ℕ) → IsFolder folder → IsFolder other → HasNoSlash name → HasNoSlash rest → folder ++ name ≡ other ++ rest → (folder ≡ other) × (name ≡ rest)
cut_once [] [] name rest one two none nor e = (refl, e)
cut_once [] (second ∷ other) name rest one two none nor e = absurd (no_folder_within second other name rest two none e)
cut_once (first ∷ folder) [] name rest one two none nor e = absurd (no_folder_within first folder rest name one nor (sym e))
cut_once (first ∷ folder) (second ∷ other) name rest one two none nor e =
    let tail = cut_once folder other name rest (folder_tail first folder one) (folder_tail second other two) none nor (ap (λ l. drop 1 l) e) in
    (ap₂ (λ a b. a ∷ b) (ap (λ l. get_or l 0 0) e) tail.0, tail.1)

pub part_once : PartOnceLaw
part_once path program one other is also =
    let cut = cut_once is.folder also.folder is.name also.name is.is_folder also.is_folder is.no_slash also.no_slash (sym is.path_is ∙ also.path_is) in
    is.part_is ∙ ap₂ (λ folder name. folder ++ part_name_behind name program) cut.0 cut.1 ∙ sym also.part_is

pub part_apart : PartApartLaw
part_apart path program part is same =
    let tail = program ++ codes "-part" in
    absurd (
    omega (
      arith,
      ap length is.path_is,
      ap length is.part_is,
      ap length same,
      length-append is.folder is.name,
      length-append is.folder (part_name_behind is.name program),
      length-append is.name (codes "." ++ tail),
      length-append program (codes "-part"),
    )
    )

behind_point : (name : List ℕ) → HasNoSlash name → HasNoSlash (46 ∷ name)
behind_point name none zero l e = absurd (omega (arith, e))
behind_point name none (suc i) l e = none i (omega (arith, l)) e

pub path_once : PathOnceLaw
path_once one other program part is also =
    let tail = codes "." ++ (program ++ codes "-part") in
    let same = append_assoc is.folder (46 ∷ is.name) tail ∙ sym is.part_is ∙ also.part_is ∙ sym (append_assoc also.folder (46 ∷ also.name) tail) in
    let heads = append_cancel_right (is.folder ++ 46 ∷ is.name) (also.folder ++ 46 ∷ also.name) tail same in
    let cut = cut_once is.folder also.folder (46 ∷ is.name) (46 ∷ also.name) is.is_folder also.is_folder (behind_point is.name is.no_slash) (behind_point also.name also.no_slash) heads in
    is.path_is ∙ ap₂ (λ a b. a ++ drop 1 b) cut.0 cut.1 ∙ sym also.path_is
