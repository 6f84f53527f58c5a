-- What the command `origin` comes to where it isn't done.
use Rattle.std.proofs.Common.{◌≡◌, ◌≢◌, inl, inr, ℕ, Bool, false, List, [], length, get_or, Option, None, refl, sym, subst}
use Rattle.page_layout.specs.declared.geometry.Geometry.{Geometry}
use Rattle.lab_origin.specs.declared.readings.ReadingFault.TheVariants as reading
use Rattle.lab_origin.specs.declared.trace.OriginFault.{OriginFault}
use Rattle.lab_origin.specs.declared.trace.OriginFault.TheVariants as origin
use Rattle.lab_origin.specs.Traced.{ArePinned, IsOfSome, IsUntraced}
use Rattle.lab_commands.specs.declared.origin_words.OriginWords.{OriginWords}
use Rattle.lab_commands.specs.declared.files.Standing.{Standing}
use Rattle.lab_commands.specs.declared.files.Standing.TheVariants as standing
use Rattle.lab_commands.specs.declared.text.LabFault.{LabFault}
use Rattle.lab_commands.specs.declared.text.LabFault.TheVariants as fault
use Rattle.lab_commands.specs.Files.{AnswersNoMore, IsFileOpened, StandsAtPath, StoreAnswers}
use Rattle.lab_commands.specs.Merge.{AreOpened, HasSame, IsSomeUnread}
use Rattle.lab_commands.specs.Undone.{IsKeptThere, IsMapUnplaced, IsUnplaced, IsUnread, IsUnwritten}
use Rattle.lab_commands.specs.Origin.{IsOfFailedReading, IsUntracedTo, MayNotMap, TellsOrigin, readings_of}
use Rattle.lab_commands.proofs.UndoneLemmas.{opened_before, unread_before}

-- ---- whether OUT may be written

pub origin_unasked_out : (a : StoreAnswers) (words : OriginWords) (told : LabFault) → IsUnwritten a words.out.now told → MayNotMap a words told
origin_unasked_out a words fault.OutOfMemory k = inl k
origin_unasked_out a words (fault.Write word) k = inl k
origin_unasked_out a words _ k = absurd k

pub origin_unasked_dump : (a : StoreAnswers) (words : OriginWords) (told : LabFault) → StandsAtPath a words.out.now → IsUnread a words.dump.now told → MayNotMap a words told
origin_unasked_dump a words fault.OutOfMemory stands k = inr (stands, inl k)
origin_unasked_dump a words (fault.Read word) stands k = inr (stands, inl k)
origin_unasked_dump a words _ stands k = absurd k

pub origin_unasked_readings : (a : StoreAnswers) (words : OriginWords) (told : LabFault) → StandsAtPath a words.out.now → IsSomeUnread a (readings_of words) told → MayNotMap a words told
origin_unasked_readings a words fault.OutOfMemory stands k = inr (stands, inr k)
origin_unasked_readings a words (fault.Read word) stands k = inr (stands, inr k)
origin_unasked_readings a words _ stands k = absurd k.2

-- what stands at OUT, and is neither the dump nor a reading, is not replaced
pub origin_kept_there : (a : StoreAnswers) (words : OriginWords) (what : Standing) (told : LabFault) → a.says words.out.now what → what ≢ standing.Nothing → a.says_same words.dump.now words.out.now false → HasSame a (readings_of words) words.out.now false
    → IsKeptThere what words.force told → MayNotMap a words told
origin_kept_there a words what fault.Exists said some dump other k = ((what, some, said), dump, other, k)
origin_kept_there a words what fault.NoFile said some dump other k = (subst (λ w. a.says words.out.now w) k.0 said, dump, other, k.1)
origin_kept_there a words what _ said some dump other k = absurd k

-- ---- the dump and the readings

pub untraced_as : (a : StoreAnswers) (words : OriginWords) (g : Geometry) (known : Option (List ℕ)) (readings : List (Option (List ℕ))) (f : OriginFault) (told : LabFault) → IsFileOpened a words.dump.now known → AreOpened a (readings_of words) readings
    → IsOfSome (length (readings_of words)) f → IsUntraced g known readings f → (f ≡ origin.Source → a.reads_fail) → ((i : ℕ) → f ≡ origin.Reading (reading.Source i) → a.reads_fail) → TellsOrigin f words told → IsUntracedTo a words g told
untraced_as a words g known readings origin.WrongLength told opened each of h reads one is = subst (IsUntracedTo a words g) (sym is) (record { known = known; opened = opened; other = h }, (readings, each))
untraced_as a words g known readings origin.Source told opened each of h reads one is = subst (IsUntracedTo a words g) (sym is) (inl refl, record { known = known; opened = opened }, (readings, each), reads refl)
untraced_as a words g known readings (origin.Reading (reading.WrongLength i)) (fault.ReadingLength word) opened each of h reads one is = record { known = known; readings = readings; dump_opened = opened; opened = each; whole = h.0; place = i; within = of; named = sym is; first = h.1 }
untraced_as a words g known readings (origin.Reading (reading.Source i)) (fault.Read word) opened each of h reads one is = (inr (i, of, sym is), record { known = known; opened = opened }, (readings, each), one i refl)
untraced_as a words g known readings (origin.Reading why) _ opened each of h reads one is = absurd is

-- a read of a reading that failed is told with the path of one that has
pub told_of_failed_reading : (words : OriginWords) (dump : Bool) (failed : List Bool) (f : OriginFault) (told : LabFault) → ArePinned dump failed f → TellsOrigin f words told → IsOfFailedReading failed words told
told_of_failed_reading words dump failed origin.WrongLength told pinned is = subst (IsOfFailedReading failed words) (sym is) tt
told_of_failed_reading words dump failed origin.Source told pinned is = subst (IsOfFailedReading failed words) (sym is) (inl refl)
told_of_failed_reading words dump failed (origin.Reading (reading.WrongLength i)) (fault.ReadingLength word) pinned is = tt
told_of_failed_reading words dump failed (origin.Reading (reading.Source i)) (fault.Read word) pinned is = inr (i, sym is, pinned)
told_of_failed_reading words dump failed (origin.Reading why) _ pinned is = absurd is

-- what was said of the readings once the dump was opened
pub each_opened_before : (a b : StoreAnswers) (paths : List (List ℕ)) (known : List (Option (List ℕ))) → AnswersNoMore a b → AreOpened b paths known → AreOpened a paths known
each_opened_before a b paths known more h = record { count = h.count; each = λ i l. opened_before a b (get_or paths i []) (get_or known i None) more (h.each i l) }

pub some_unread_before : (a b : StoreAnswers) (paths : List (List ℕ)) (told : LabFault) → AnswersNoMore a b → IsSomeUnread b paths told → IsSomeUnread a paths told
some_unread_before a b paths told more h = (h.0, h.1, unread_before a b (get_or paths h.0 []) told more h.2)

-- ---- the map

pub as_out : (a : StoreAnswers) (path : List ℕ) (force : Bool) (told : LabFault) → IsMapUnplaced a path force told → told ≢ fault.MapExists → IsUnplaced a path force told
as_out a path force fault.MapExists k ne = absurd (ne refl)
as_out a path force fault.OutOfMemory k ne = k
as_out a path force (fault.Write word) k ne = k
as_out a path force _ k ne = absurd k

pub as_taken : (a : StoreAnswers) (path : List ℕ) (force : Bool) → IsMapUnplaced a path force fault.MapExists → IsUnplaced a path force fault.Exists
as_taken a path force k = k
