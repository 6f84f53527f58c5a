-- What the files that are read may answer, and those that were put in their places.
use Rattle.std.specs.Prelude.{◌≡◌, ◌≢◌, ◌≤◌, ℕ, zero, suc, ◌-◌, Bool, true, false, List, [], ◌∷◌, ◌++◌, Option, Some, IfSome, IsSome, All, take, Result, Ok, Err}
use Rattle.std.specs.List.{concat}
use Rattle.std.specs.Option.{option_map}
use Rattle.lab_commands.specs.declared.files.LabFileFault.{LabFileFault}
use Rattle.lab_commands.specs.declared.files.KeepFault.{KeepFault}
use Rattle.lab_commands.specs.declared.files.KeepFault.TheVariants as keep
use Rattle.lab_commands.specs.declared.files.Standing.{Standing}
use Rattle.lab_commands.specs.declared.files.Standing.TheVariants.{Nothing}

-- what a store of files may answer, by the paths as written
pub record StoreAnswers : Type 1 where
  -- the bytes that a reader of a path may tell
  pub gives : List ℕ → List ℕ → Type 0
  -- each reader that it opens tells its bytes: those of the system's files don't, those of files in memory may
  pub tells : Bool
  -- what stands at a path
  pub says : List ℕ → Standing → Type 0
  -- whether two paths name one file
  pub says_same : List ℕ → List ℕ → Bool → Type 0
  -- how a call that names a path may fail: of two paths the first
  pub fails : List ℕ → LabFileFault → Type 0
  -- a read of a file that was opened failed
  pub reads_fail : Type 0
  -- a write to a file that was made failed
  pub writes_fail : Type 0
  -- a file that has no name yet may not get this one: another program has given it away meanwhile
  pub taken : List ℕ → Type 0

-- a store of which nothing is known
abbrev pub unknown_store : StoreAnswers
unknown_store = record {
  gives = λ path bytes. Unit {0};
  tells = false;
  says = λ path what. Unit {0};
  says_same = λ first second yes. Unit {0};
  fails = λ path fault. Unit {0};
  reads_fail = Unit {0};
  writes_fail = Unit {0};
  taken = λ path. Unit {0};
}

-- the store may answer nothing new
pub record AnswersNoMore (old new : StoreAnswers) : Type 0 where
  pub gives_same : (at bytes : List ℕ) → new.gives at bytes → old.gives at bytes
  pub tells_same : new.tells ≡ old.tells
  pub fails_same : (at : List ℕ) (fault : LabFileFault) → new.fails at fault → old.fails at fault
  pub reads_same : new.reads_fail → old.reads_fail
  pub writes_same : new.writes_fail → old.writes_fail
  pub taken_same : (at : List ℕ) → new.taken at → old.taken at
  pub says_same : (at : List ℕ) (what : Standing) → new.says at what → old.says at what

-- what is known of the bytes of a reader of this path: they are some that the file gives, and they are known where the store tells them
pub record IsFileOpened (a : StoreAnswers) (path : List ℕ) (known : Option (List ℕ)) : Type 0 where
  pub given : IfSome known (a.gives path)
  pub told : a.tells ≡ true → IsSome known

-- These are the first bytes of a file, at most so many, where they are known.
pub record IsFrontOfFile (a : StoreAnswers) (path : List ℕ) (most : ℕ) (bytes : List ℕ) : Type 0 where
  pub known : Option (List ℕ)
  pub opened : IsFileOpened a path known
  pub taken : IfSome known (λ all. bytes ≡ take most all)

-- something stands at this path
abbrev pub StandsAtPath : StoreAnswers → List ℕ → Type 0
StandsAtPath a path = (what : Standing) × (what ≢ Nothing) × a.says path what

-- a file of this path, with these pieces one behind another, where they are known; and whether it could replace another one
pub record KeptFile : Type 0 where
  pub path : List ℕ
  pub pieces : Option (List (List ℕ))
  pub over : Bool

-- what was done to the files: those that were put in their places, in order, and how many more that were made stand beside theirs
pub record Store : Type 0 where
  pub put : List KeptFile
  pub beside : ℕ

abbrev pub with_kept : Option Store → List ℕ → Option (List (List ℕ)) → Bool → Option Store
with_kept store path pieces over =
    option_map (λ s. record { put = s.put ++ (record { path = path; pieces = pieces; over = over } ∷ []); beside = s.beside }) store

-- one more was made beside its place
abbrev pub with_part : Option Store → Option Store
with_part store = option_map (λ s. record { put = s.put; beside = suc s.beside }) store

-- one that was made no longer stands beside its place
abbrev pub without_part : Option Store → Option Store
without_part store = option_map (λ s. record { put = s.put; beside = s.beside - 1 }) store

-- how many files were opened after so many more
abbrev pub after_opens : ℕ → Option ℕ → Option ℕ
after_opens zero opens = opens
after_opens (suc n) opens = option_map suc (after_opens n opens)

-- so many files were opened at most
abbrev pub OpensSome : (most : ℕ) → (opens opened : Option ℕ) → Type 0
OpensSome most opens opened = (count : ℕ) × (count ≤ most) × (opened ≡ after_opens count opens)

-- the files after one more was to be made, by the answer
abbrev pub made_after : {T E : Type 0} → Option Store → Result T E → Option Store
made_after store (Ok made) = with_part store
made_after store (Err fault) = store

-- the files after one more was to be put in its place, by the answer
abbrev pub files_kept_after : Option Store → List ℕ → Option (List (List ℕ)) → Bool → Result (Unit {0}) KeepFault → Option Store
files_kept_after store path pieces over (Ok done) = with_kept store path pieces over
files_kept_after store path pieces over (Err fault) = store

-- a file that was put in its place tells what was put there last, where that is known
abbrev pub IsAsPut : Option Store → List ℕ → Option (List ℕ) → Type 0
IsAsPut store path known =
    IfSome store (λ s. (front back : List KeptFile) (last : KeptFile) → s.put ≡ front ++ last ∷ back → last.path ≡ path → All (λ other. other.path ≢ path) back
    → IfSome last.pieces (λ pieces. known ≡ Some (concat pieces)))

-- why a file does not get its name: a call failed, or another file has it meanwhile, and may not be replaced
abbrev pub IsFileUnkept : StoreAnswers → List ℕ → Bool → KeepFault → Type 0
IsFileUnkept a path over (keep.Fails fault) = a.fails path fault
IsFileUnkept a path over keep.Taken = (over ≡ false) × a.taken path
