-- HOW A PART IS NAMED: it stands in the folder of its path, behind a point, and tells which program made it.
use Rattle.std.specs.Prelude.{◌≡◌, ◌≢◌, ◌⊎◌, ℕ, ◌<◌, List, [], ◌∷◌, ◌++◌, length, get_or, codes}
use Rattle.std.specs.Path.{slash}

-- the folder of a name, as it stands before the name: nothing, or some text and a slash
abbrev pub IsFolder : List ℕ → Type 0
IsFolder folder = (folder ≡ []) ⊎ ((front : List ℕ) × (folder ≡ front ++ (slash ∷ [])))

abbrev pub HasNoSlash : List ℕ → Type 0
HasNoSlash name = (i : ℕ) → i < length name → get_or name i 0 ≢ slash

-- what stands behind the folder: `.NAME.PROGRAM-part`
abbrev pub part_name_behind : (name program : List ℕ) → List ℕ
part_name_behind name program = codes "." ++ (name ++ (codes "." ++ (program ++ codes "-part")))

-- NAME IS WHAT FOLLOWS THE LAST SLASH OF THE PATH, and the part stands in the same folder
pub record IsPartName (path program part : List ℕ) : Type 0 where
  pub folder : List ℕ
  pub name : List ℕ
  pub path_is : path ≡ folder ++ name
  pub part_is : part ≡ folder ++ part_name_behind name program
  pub is_folder : IsFolder folder
  pub no_slash : HasNoSlash name

-- the part is another name than the path
abbrev pub PartApartLaw : Type 0
PartApartLaw = (path program part : List ℕ) → IsPartName path program part → part ≢ path

-- one path has one part
abbrev pub PartOnceLaw : Type 0
PartOnceLaw = (path program one other : List ℕ) → IsPartName path program one → IsPartName path program other → one ≡ other

-- and two paths have two
abbrev pub PathOnceLaw : Type 0
PathOnceLaw = (one other program part : List ℕ) → IsPartName one program part → IsPartName other program part → one ≡ other
