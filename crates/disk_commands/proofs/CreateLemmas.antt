-- Why a die was not made.
use Rattle.std.proofs.Common.{◌≡◌, ◌<◌, ◌*◌, ◌⊎◌, ◌∙◌, ap, inl, inr, ℕ, Bool, true, false, List, length, Option, Some, None, refl, subst, sym}
use Rattle.std.specs.Prelude.{Result, Ok, Err, IfErr, OnErr, OnOk}
use Rattle.std.specs.Borrow.{Bor}
use Rattle.file_die.specs.Store.{Held, blank}
use Rattle.disk_server.specs.declared.format.CreateFault.{CreateFault}
use Rattle.disk_server.specs.declared.format.CreateFault.TheVariants as create
use Rattle.disk_server.specs.declared.opened.OpenStoreFault.TheVariants as open_store
use Rattle.disk_server.specs.Made.{IsDiskUnmade}
use Rattle.disk_commands.specs.declared.shapes.DiskShape.{DiskShape}
use Rattle.disk_commands.specs.ShapeText.{shape_text}
use Rattle.disk_commands.specs.declared.words.CreateWords.{CreateWords}
use Rattle.disk_commands.specs.declared.files.DiskFileFault.TheVariants as file
use Rattle.disk_commands.specs.declared.text.DiskCommandFault.{DiskCommandFault}
use Rattle.disk_commands.specs.declared.text.DiskCommandFault.TheVariants as fault
use Rattle.page_layout.specs.Counter.{HasRisen}
use Rattle.page_layout.specs.Geometry.{page_bytes, row_count}
use Rattle.disk_commands.specs.Asked.{IsShapeAsked}
use Rattle.disk_commands.specs.BadBlocks.{AreBadAsked, HasMarks, is_copied}
use Rattle.disk_commands.specs.declared.files.DiskFileFault.{DiskFileFault}
use Rattle.disk_commands.specs.Opening.{told_at, told_of_copy, IsFileOrMemoryFault}
use Rattle.disk_commands.specs.Created.{HasCreated, IsDieAskedFor, IsNoDump, IsUncreated, IsNewDieUnformatted, unformatted}
use Rattle.disk_commands.specs.Files.{DiskFileAnswers, FailsCopy, FailsNoMore, Kept, LeavesNoPart, no_part, with_kept_disk, made_part}

-- erased pages were not formatted, for this
pub not_formatted : {S : Type 0} (held : S → Held) (honest : S → Bool) (failed : S → ℕ) (a : DiskFileAnswers) (path : Bor (List ℕ)) (shape : DiskShape) (bad : List ℕ) (store given : S) (why : CreateFault)
    → honest store ≡ a.honest → (honest store ≡ true → HasMarks shape.geometry bad (held store)) → IsDiskUnmade held honest failed shape.share store given why
    → IsNewDieUnformatted held honest failed a path.now shape bad (unformatted path why)
not_formatted held honest failed a path shape bad store given (create.Open open_store.OutOfMemory) is erased un = tt
not_formatted held honest failed a path shape bad store given (create.Open open_store.Device) is erased un = (refl, (store, given, is, erased, un))
not_formatted held honest failed a path shape bad store given (create.Open open_store.Reset) is erased un = (refl, (store, given, is, erased, un))
not_formatted held honest failed a path shape bad store given (create.Open open_store.Flush) is erased un = (refl, (store, given, is, erased, un))
not_formatted held honest failed a path shape bad store given (create.Open open_store.Share) is erased un = (refl, (store, given, is, erased, un))
not_formatted held honest failed a path shape bad store given (create.Open (open_store.Mount refusal)) is erased un = (refl, (store, given, is, erased, un))
not_formatted held honest failed a path shape bad store given (create.Format fault) is erased un = (refl, (store, given, is, erased, un))
not_formatted held honest failed a path shape bad store given create.Sync is erased un = (refl, (store, given, is, erased, un))

-- no erased pages were made, for this
pub not_blank : {S : Type 0} (held : S → Held) (honest : S → Bool) (failed : S → ℕ) (a : DiskFileAnswers) (path : Bor (List ℕ)) (shape : DiskShape) (bad : List ℕ) (why : DiskFileFault) → a.fails path.now why
    → IsNewDieUnformatted held honest failed a path.now shape bad (told_at why path 0)
not_blank held honest failed a path shape bad file.Read is = (refl, is)
not_blank held honest failed a path shape bad file.Write is = (refl, inl is)
not_blank held honest failed a path shape bad file.InUse is = (refl, is)
not_blank held honest failed a path shape bad file.Exists is = (refl, is)
not_blank held honest failed a path shape bad (file.Length found) is = (refl, refl, is)
not_blank held honest failed a path shape bad file.OutOfMemory is = tt

-- a dump was not copied, for this
pub not_copied : {S : Type 0} (held : S → Held) (honest : S → Bool) (failed : S → ℕ) (a : DiskFileAnswers) (path dump : Bor (List ℕ)) (shape : DiskShape) (wanted : ℕ) (why : DiskFileFault) (told : DiskCommandFault) → FailsCopy a path.now dump.now why
    → wanted ≡ row_count shape.geometry * page_bytes shape.geometry → told ≡ told_of_copy why path dump wanted → IsNoDump held honest failed a path.now dump.now shape told
not_copied held honest failed a path dump shape wanted why told fails bytes is =
    subst (IsNoDump held honest failed a path.now dump.now shape) (sym (is ∙ ap (told_of_copy why path dump) bytes)) (by why fails)
  where
    by : (f : DiskFileFault) → FailsCopy a path.now dump.now f → IsNoDump held honest failed a path.now dump.now shape (told_of_copy f path dump (row_count shape.geometry * page_bytes shape.geometry))
    by file.Read h = inl (refl, h)
    by file.Write h = inr (refl, h)
    by file.InUse h = inr (refl, h)
    by file.Exists h = inr (refl, h)
    by (file.Length found) h = inl (refl, refl, h)
    by file.OutOfMemory h = tt

-- they were not marked
pub not_marked : {S : Type 0} (held : S → Held) (honest : S → Bool) (failed : S → ℕ) (a : DiskFileAnswers) (path : Bor (List ℕ)) (shape : DiskShape) (bad : List ℕ) (store left : S) (told : DiskCommandFault)
    → honest store ≡ a.honest → (honest store ≡ true → held store ≡ blank shape.geometry) → 0 < length bad → ((told ≡ fault.OutOfMemory) ⊎ ((told ≡ fault.Write path) × HasRisen (failed store) (failed left)))
    → IsNewDieUnformatted held honest failed a path.now shape bad told
not_marked held honest failed a path shape bad store left told is erased some (inl memory) = subst (IsNewDieUnformatted held honest failed a path.now shape bad) (sym memory) tt
not_marked held honest failed a path shape bad store left told is erased some (inr h) = subst (IsNewDieUnformatted held honest failed a path.now shape bad) (sym h.0) (refl, inr (some, (store, left, is, erased, h.1)))

-- what was made beside a path is removed
pub none_after : (part : Option Bool) → no_part (made_part part) ≡ no_part part
none_after (Some before) = refl
none_after None = refl

pub none_twice : (part : Option Bool) → no_part (no_part part) ≡ no_part part
none_twice (Some before) = refl
none_twice None = refl

pub removed : (before made after : Option Bool) → made ≡ made_part before → after ≡ no_part made → LeavesNoPart before after
removed before made after is gone = inr (gone ∙ (ap no_part is ∙ none_after before))

-- a die that was made was put in its place
pub created : {S : Type 0} (held : S → Held) (honest : S → Bool) (a : DiskFileAnswers) (words : CreateWords) (shape : DiskShape) (bad : List ℕ) (before between after : Option (List Kept)) (store : S) (result : Result (Unit {0}) DiskCommandFault)
    → IsShapeAsked words shape → AreBadAsked (is_copied words.make) words.bad shape.geometry bad → a.says_there words.disk.now false → (honest store ≡ true → IsDieAskedFor a words.make shape bad (held store)) → honest store ≡ a.honest → between ≡ before
    → OnOk result (after ≡ with_kept_disk between (record { path = words.disk.now; held = held store; text = shape_text shape }))
    → OnOk result (HasCreated held honest a words before after)
created held honest a words shape bad before between after store (Ok done) asked named free die is same kept =
    record {
      shape = shape;
      asked = asked;
      bad = bad;
      bad_asked = named;
      free = free;
      store = store;
      die = die;
      is_honest = is;
      kept = subst (λ b. after ≡ with_kept_disk b (record { path = words.disk.now; held = held store; text = shape_text shape })) same kept;
    }
created held honest a words shape bad before between after store (Err told) asked named free die is same kept = tt

-- or was not
unkept_before : (a b : DiskFileAnswers) (path : List ℕ) (told : DiskCommandFault) → FailsNoMore a b → IsFileOrMemoryFault b path told → IsFileOrMemoryFault a path told
unkept_before a b path (fault.Read word) no_more h = (h.0, no_more path file.Read h.1)
unkept_before a b path (fault.Write word) no_more h = (h.0, no_more path file.Write h.1)
unkept_before a b path (fault.InUse word) no_more h = (h.0, no_more path file.InUse h.1)
unkept_before a b path (fault.Exists word) no_more h = (h.0, no_more path file.Exists h.1)
unkept_before a b path (fault.Length word found wanted) no_more h = (h.0, h.1, no_more path (file.Length found) h.2)
unkept_before a b path fault.OutOfMemory no_more h = tt
unkept_before a b path _ no_more h = absurd h

pub kept_then : (result : Result (Unit {0}) DiskCommandFault) (after between before : Option (List Kept)) → OnErr result (after ≡ between) → between ≡ before → OnErr result (after ≡ before)
kept_then (Ok done) after between before h same = tt
kept_then (Err told) after between before h same = h ∙ same

pub not_kept : {S : Type 0} (held : S → Held) (honest : S → Bool) (failed : S → ℕ) (a b : DiskFileAnswers) (words : CreateWords) (shape : DiskShape) (bad : List ℕ) (result : Result (Unit {0}) DiskCommandFault)
    → IsShapeAsked words shape → AreBadAsked (is_copied words.make) words.bad shape.geometry bad → a.says_there words.disk.now false → FailsNoMore a b → IfErr result (IsFileOrMemoryFault b words.disk.now) → IfErr result (IsUncreated held honest failed a words)
not_kept held honest failed a b words shape bad (Ok done) asked named free no_more h = tt
not_kept held honest failed a b words shape bad (Err told) asked named free no_more h = inr (shape, asked, inr (bad, named, inr (free, inr (unkept_before a b words.disk.now told no_more h))))
