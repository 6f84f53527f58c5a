-- Why a command ended before it was done.
use Rattle.std.proofs.Common.{◌≡◌, ◌≢◌, inl, inr, ℕ, Bool, false, List, Option, Some, None, IfSome, refl, sym, ap, ◌∙◌, subst}
use Rattle.std.specs.Prelude.{Result, Ok, Err, IfErr, length, replicate}
use Rattle.std.proofs.lemmas.List.{length-replicate}
use Rattle.std.specs.Result.{IsErrAnd}
use Rattle.std.proofs.KnownBytes.{Keeps-refl}
use Rattle.std.specs.Borrow.{Bor}
use Rattle.page_layout.specs.declared.geometry.Geometry.{Geometry}
use Rattle.lab_dump.specs.declared.make_fault.MakeFault.{MakeFault}
use Rattle.lab_dump.specs.declared.make_fault.MakeFault.TheVariants as make
use Rattle.lab_dump.specs.Unmade.{IsUnmade as IsUnmadeBy}
use Rattle.lab_commands.specs.declared.text.LabFault.{LabFault}
use Rattle.lab_commands.specs.declared.text.LabFault.TheVariants as fault
use Rattle.lab_commands.specs.declared.files.LabFileFault.TheVariants as file
use Rattle.lab_commands.specs.declared.files.Standing.{Standing}
use Rattle.lab_commands.specs.declared.files.Standing.TheVariants as standing
use Rattle.lab_commands.specs.Files.{AnswersNoMore, IsFileOpened, StandsAtPath, Store, StoreAnswers}
use Rattle.lab_commands.specs.Undone.{IsFileUnmade, IsKeptThere, IsMapUnplaced, IsFileUnbegun, IsUnplaced, IsUnread, IsDumpUntaken, IsUnwritten, LeavesAll, MayNotWrite, OpensForReading, unmade_as}

pub left_all : (before after : Option Store) (out : Option (List ℕ)) → after ≡ before → LeavesAll before after out out
left_all before after out same = record { kept = same; silent = Keeps-refl out }

-- a fault that is handed on
pub handed_on : {T : Type 0} (P : LabFault → Type 0) (r : Result T LabFault) (told : LabFault) → IsErrAnd r (λ e. e ≡ told) → P told → IfErr r P
handed_on P (Ok done) told is h = tt
handed_on P (Err e) told is h = subst P (sym is) h

-- what is handed on so is that fault
pub handed : {T : Type 0} (r : Result T LabFault) (told : LabFault) → IsErrAnd r (λ e. e ≡ told) → r ≡ Err told
handed (Ok done) told is = absurd is
handed (Err e) told is = ap Err is

-- ---- the files between

pub no_more_first : (a : StoreAnswers) → AnswersNoMore a a
no_more_first a = record { gives_same = λ at bytes h. h; tells_same = refl; fails_same = λ at f h. h; reads_same = λ h. h; writes_same = λ h. h; taken_same = λ at h. h; says_same = λ at what h. h }

pub no_more_then : (a b d : StoreAnswers) → AnswersNoMore a b → AnswersNoMore b d → AnswersNoMore a d
no_more_then a b d h k = record {
  gives_same = λ at bytes x. h.gives_same at bytes (k.gives_same at bytes x);
  tells_same = k.tells_same ∙ h.tells_same;
  fails_same = λ at f x. h.fails_same at f (k.fails_same at f x);
  reads_same = λ x. h.reads_same (k.reads_same x);
  writes_same = λ x. h.writes_same (k.writes_same x);
  taken_same = λ at x. h.taken_same at (k.taken_same at x);
  says_same = λ at what x. h.says_same at what (k.says_same at what x);
}

pub unwritten_before : (a b : StoreAnswers) (path : List ℕ) (told : LabFault) → AnswersNoMore a b → IsUnwritten b path told → IsUnwritten a path told
unwritten_before a b path fault.OutOfMemory h k = h.fails_same path file.OutOfMemory k
unwritten_before a b path (fault.Write word) h k = (k.0, h.fails_same path file.Failed k.1)
unwritten_before a b path _ h k = absurd k

pub unplaced_before : (a b : StoreAnswers) (path : List ℕ) (force : Bool) (told : LabFault) → AnswersNoMore a b → IsUnplaced b path force told → IsUnplaced a path force told
unplaced_before a b path force fault.Exists h k = (k.0, h.taken_same path k.1)
unplaced_before a b path force fault.OutOfMemory h k = h.fails_same path file.OutOfMemory k
unplaced_before a b path force (fault.Write word) h k = (k.0, h.fails_same path file.Failed k.1)
unplaced_before a b path force _ h k = absurd k

pub map_unplaced_before : (a b : StoreAnswers) (path : List ℕ) (force : Bool) (told : LabFault) → AnswersNoMore a b → IsMapUnplaced b path force told → IsMapUnplaced a path force told
map_unplaced_before a b path force fault.MapExists h k = (k.0, h.taken_same path k.1)
map_unplaced_before a b path force fault.OutOfMemory h k = h.fails_same path file.OutOfMemory k
map_unplaced_before a b path force (fault.Write word) h k = (k.0, h.fails_same path file.Failed k.1)
map_unplaced_before a b path force _ h k = absurd k

pub opened_before : (a b : StoreAnswers) (path : List ℕ) (known : Option (List ℕ)) → AnswersNoMore a b → IsFileOpened b path known → IsFileOpened a path known
opened_before a b path known h k = record {
  given = given known k.given;
  told = λ tells. k.told (h.tells_same ∙ tells);
}
  where
    given : (o : Option (List ℕ)) → IfSome o (b.gives path) → IfSome o (a.gives path)
    given None x = tt
    given (Some bytes) x = h.gives_same path bytes x

pub unread_before : (a b : StoreAnswers) (path : List ℕ) (told : LabFault) → AnswersNoMore a b → IsUnread b path told → IsUnread a path told
unread_before a b path fault.OutOfMemory h k = h.fails_same path file.OutOfMemory k
unread_before a b path (fault.Read word) h k = (k.0, h.fails_same path file.Failed k.1)
unread_before a b path _ h k = absurd k

pub opens_before : (a b : StoreAnswers) (path : List ℕ) → AnswersNoMore a b → OpensForReading b path → OpensForReading a path
opens_before a b path h k = record { known = k.known; opened = opened_before a b path k.known h k.opened }

pub untaken_before : (a b : StoreAnswers) (g : Geometry) (path : List ℕ) (told : LabFault) → AnswersNoMore a b → IsDumpUntaken b g path told → IsDumpUntaken a g path told
untaken_before a b g path fault.WrongLength h k = record { known = k.known; opened = opened_before a b path k.known h k.opened; other = k.other }
untaken_before a b g path (fault.Read word) h k = (k.0, opens_before a b path h k.1, h.reads_same k.2)
untaken_before a b g path _ h k = absurd k

-- ---- the dump and OUT

pub unmade : (a : StoreAnswers) (dump out : Bor (List ℕ)) (g : Geometry) (known : Option (List ℕ)) (f : MakeFault) → IsFileOpened a dump.now known → IfSome known (IsUnmadeBy g f) → (f ≡ make.Source → a.reads_fail) → (f ≡ make.Target → a.writes_fail)
    → IsFileUnmade a g dump.now out.now (unmade_as f dump out)
unmade a dump out g known make.WrongLength opened h reads writes = inr (inl (record { known = known; opened = opened; other = h }))
unmade a dump out g known make.Source opened h reads writes = inr (inl (refl, record { known = known; opened = opened }, reads refl))
unmade a dump out g known make.Target opened h reads writes = inr (inr (inr (refl, record { known = known; opened = opened }, writes refl)))

-- where the dump was not opened, or the file not made
pub unbegun : (a : StoreAnswers) (g : Geometry) (dump path : List ℕ) (told : LabFault) → IsFileUnbegun a dump path told → IsFileUnmade a g dump path told
unbegun a g dump path told (inl unread) = inl unread
unbegun a g dump path told (inr unwritten) = inr (inr (inl unwritten))

-- a file of so many zeros has so many pieces
pub as_many : (ps : Option (List (List ℕ))) (count rows : ℕ) (zeros : List ℕ) → IfSome ps (λ (pieces : List (List ℕ)). pieces ≡ replicate count zeros) → count ≡ rows → IfSome ps (λ pieces. length pieces ≡ rows)
as_many None count rows zeros is same = tt
as_many (Some pieces) count rows zeros is same = ap length is ∙ (length-replicate count zeros ∙ same)

-- ---- whether a file may be written

pub unasked_file : (a : StoreAnswers) (dump path : List ℕ) (force : Bool) (told : LabFault) → IsUnwritten a path told → MayNotWrite a dump path force told
unasked_file a dump path force fault.OutOfMemory k = inl k
unasked_file a dump path force (fault.Write word) k = inl k
unasked_file a dump path force _ k = absurd k

pub unasked_dump : (a : StoreAnswers) (dump path : List ℕ) (force : Bool) (told : LabFault) → StandsAtPath a path → IsUnread a dump told → MayNotWrite a dump path force told
unasked_dump a dump path force fault.OutOfMemory stands k = inr (stands, k)
unasked_dump a dump path force (fault.Read word) stands k = inr (stands, k)
unasked_dump a dump path force _ stands k = absurd k

-- what stands at a path, and is no dump, is not replaced
pub kept_there : (a : StoreAnswers) (dump path : List ℕ) (what : Standing) (force : Bool) (told : LabFault) → a.says path what → what ≢ standing.Nothing → a.says_same dump path false → IsKeptThere what force told → MayNotWrite a dump path force told
kept_there a dump path what force fault.Exists said some other k = ((what, some, said), other, k)
kept_there a dump path what force fault.NoFile said some other k = (subst (λ w. a.says path w) k.0 said, other, k.1)
kept_there a dump path what force _ said some other k = absurd k
