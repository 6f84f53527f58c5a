-- What the command `serve` comes to.
use Rattle.std.specs.Prelude.{⊤, ◌≡◌, ◌⊎◌, ℕ, Bool, true, List, map, filter, min, Option, Some, None, Result, Ok, Err}
use Rattle.std.specs.List.{range_with_len}
use Rattle.std.specs.Io.KnownBytes.{Keeps}
use Rattle.page_layout.specs.View.{View}
use Rattle.page_layout.specs.declared.geometry.Geometry.{Geometry}
use Rattle.page_layout.specs.Flash.{Flash}
use Rattle.page_layout.specs.Recording.{Recording}
use Rattle.page_layout.specs.Raw.{raw_image, raw_bytes}
use Rattle.certificate.specs.Claim.{Claim}
use Rattle.onfi_cycles.specs.Called.{driver_called}
use Rattle.onfi_cycles.specs.Driver.{DriverState, flash_by}
use Rattle.nand_die.specs.declared.fault.DieFault.TheVariants as die
use Rattle.nand_die.specs.Made.{loaded_flash}
use Rattle.promises.specs.Run.{log_of}
use Rattle.promises.specs.Stream.{Request, command_of}
use Rattle.promises.specs.declared.stream.End.{End}
use Rattle.promises.specs.declared.stream.End.TheVariants as ends
use Rattle.mount.specs.Log.{failures}
use Rattle.image_check.specs.declared.refusal.Refusal.TheVariants as refusals
use Rattle.image_check.specs.Refused.{IsFirstWrong}
use Rattle.image_check.specs.Agrees.{Agrees}
use Rattle.request_stream.specs.declared.reply.ServeFault.{ServeFault}
use Rattle.ftl_device.specs.declared.device.Device.{Device}
use Rattle.ftl_device.specs.Begin.{is_bad_in}
use Rattle.command_queue.specs.Exchanges.{Exchange, commands_in, replies_in}
use Rattle.block_server.specs.declared.server.Served.{Served}
use Rattle.block_server.specs.Session.{ServesRequests}
use Rattle.block_server.specs.Checked.{IsBegunFromClaim, HeadlineHolds}
use Rattle.command_words.specs.declared.words.CertificateWords.{CertificateWords}
use Rattle.command_words.specs.declared.words.ServeWords.{ServeWords}
use Rattle.commands.specs.declared.text.CommandFault.{CommandFault}
use Rattle.commands.specs.declared.text.CommandFault.TheVariants as fault
use Rattle.commands.specs.declared.steady.SteadyDie.{SteadyDie}
use Rattle.commands.specs.Steady.{has_spared, is_flawless}
use Rattle.commands.specs.declared.text.ServeStop.{ServeStop}
use Rattle.commands.specs.declared.text.ServeStop.TheVariants as stop
use Rattle.commands.specs.Check.{HasFiles, HasNoCertificate, IsImageUnopened, IsClaimSpelled, IsUnasked, HasImageLength, LacksCertificate}
use Rattle.commands.specs.Files.{LoadAnswers, Left, LeavesUntouched, Stored, with_store, written_file, unwritten_file}

-- ---- an image in place

-- the blocks of the die that the certificate gives as bad, rising
abbrev pub bad_in : Geometry → Claim → List ℕ
bad_in g c = filter (is_bad_in c) (range_with_len 0 (min g.blocks c.sizes.blocks))

-- the driver of the die in memory, as the device asks it: it is honest
abbrev pub Driver : Type 0
Driver = DriverState SteadyDie

abbrev pub flash_behind : Driver → Flash
flash_behind d = flash_by (λ (bus : SteadyDie). bus.die.state) d

-- it tells what it has done
abbrev pub recorded_of : Driver → Option Recording
recorded_of d = Some d.told

abbrev pub is_honest : Driver → Bool
is_honest d = true

abbrev pub is_calm_as : Driver → Bool
is_calm_as d = is_flawless d.bus.die

abbrev pub failures_of : Driver → ℕ
failures_of d = d.failures

abbrev pub programs_of_driver : Driver → ℕ
programs_of_driver d = d.programs

abbrev pub erases_of_driver : Driver → ℕ
erases_of_driver d = d.erases

abbrev pub driver_view : View Driver
driver_view = record {
  flash = flash_behind;
  recorded = recorded_of;
  honest = is_honest;
  calm = is_calm_as;
  reads = λ d. d.reads;
  programs = programs_of_driver;
  erases = erases_of_driver;
  failed = failures_of;
  called = driver_called (λ bus. bus.die.state) (λ bus. true) (λ old cycle answer out new. ⊤);
}

-- the driver has answered no fault, its die has failed nothing that was due, and these are the bytes of its image
pub record HasGivenBack (d : Driver) (after : List ℕ) : Type 0 where
  pub none : failures_of d ≡ 0
  pub spared : has_spared (flash_behind d) ≡ true
  pub pages : raw_image (flash_behind d).geometry after ≡ (flash_behind d).image
  pub bytes : after ≡ raw_bytes (flash_behind d).image

-- Requests were served over a die in memory: what was read and written, the calls of the device that `start` began over it, and the image that it
-- holds then. The headline holds, since a die in memory is honest and answers all that it is asked; its events are those calls. And of a die that was
-- loaded with the certificate's bad blocks no program and no erase failed: so no further block is bad.
pub record ServesDie (g : Geometry) (capacity : ℕ) (c : Claim) (s : Flash) (after : List ℕ)
    (unread left out out' : Option (List ℕ)) (result : Result Served ServeFault) : Type 0 where
  pub requests : List Request
  pub exchanges : List Exchange
  pub commands : commands_in exchanges ≡ map command_of requests
  pub stream : ServesRequests g.data_bytes unread left out out' requests (replies_in exchanges) result
  pub nand : Driver
  pub first : Device Driver
  pub last : Device Driver
  pub held : flash_behind nand ≡ s
  pub begun : IsBegunFromClaim driver_view nand g 0 c first
  pub holds : HeadlineHolds driver_view g 0 capacity c s first exchanges last
  pub passed : (before : List ℕ) → s ≡ loaded_flash g before (bad_in g c) → failures (log_of holds.headline.run.events) ≡ 0
  pub pages : raw_image g after ≡ (flash_behind last.engine.nand).image
  pub bytes : after ≡ raw_bytes (flash_behind last.engine.nand).image

-- the same of the die that holds the image, with the certificate's bad blocks
abbrev pub ServesImage : Geometry → ℕ → Claim → (before after : List ℕ) → (unread left out out' : Option (List ℕ)) → Result Served ServeFault → Type 0
ServesImage g capacity c before after unread left out out' result = ServesDie g capacity c (loaded_flash g before (bad_in g c)) after unread left out out' result

-- what stopped the server, by its result; nothing where the stream ended
abbrev pub stop_at : End → Option ServeStop
stop_at ends.Boundary = None
stop_at ends.Unfinished = None
stop_at ends.BadFrame = Some stop.BadFrame

abbrev pub stop_in : Result Served ServeFault → Option ServeStop
stop_in (Ok served) = stop_at served.end
stop_in (Err stopped) = Some (stop.Fault stopped)

-- why no die was made of the image
abbrev pub IsDieUnmade : Geometry → List ℕ → CommandFault → Type 0
IsDieUnmade g bytes fault.WrongLength = ¬ HasImageLength g bytes
IsDieUnmade g bytes (fault.Die broken) = HasImageLength g bytes × (broken ≡ die.OutOfMemory)
IsDieUnmade g bytes _ = ⊥

-- why the die was not served: nothing was read and nothing written
abbrev pub IsUnserved : Geometry → ℕ → List ℕ → Claim → CommandFault → Type 0
IsUnserved g capacity bytes c fault.WrongLength = ¬ HasImageLength g bytes
IsUnserved g capacity bytes c (fault.Die broken) = HasImageLength g bytes × (broken ≡ die.OutOfMemory)
IsUnserved g capacity bytes c (fault.Check refusal) = HasImageLength g bytes × ((refusal ≡ refusals.OutOfMemory) ⊎ IsFirstWrong g capacity (raw_image g bytes) c refusal)
IsUnserved g capacity bytes c fault.Start = HasImageLength g bytes × Agrees g capacity (raw_image g bytes) c
IsUnserved g capacity bytes c _ = ⊥

-- a die was served, and this stopped the server, if anything
pub record HasServedDie (g : Geometry) (capacity : ℕ) (c : Claim) (s : Flash) (after : List ℕ) (unread left out out' : Option (List ℕ)) (how : Option ServeStop) : Type 0 where
  pub came : Result Served ServeFault
  pub how_is : how ≡ stop_in came
  pub serves : ServesDie g capacity c s after unread left out out' came

-- why a die in memory was not: it answers each read
abbrev pub IsUnservedDie : Geometry → ℕ → Claim → Flash → CommandFault → Type 0
IsUnservedDie g capacity c s (fault.Check refusal) = (refusal ≡ refusals.OutOfMemory) ⊎ IsFirstWrong g capacity s.image c refusal
IsUnservedDie g capacity c s fault.Start = Agrees g capacity s.image c
IsUnservedDie g capacity c s _ = ⊥

-- ---- the command

-- the words but for OUT
abbrev pub checked_words : ServeWords → CertificateWords
checked_words words = record { geometry = words.geometry; capacity = words.capacity; image = words.image; certificate = words.certificate }

-- the words are numbers, both files were read, and the certificate's bytes are those of this claim
pub record HasClaim (gives : LoadAnswers) (words : ServeWords) (g : Geometry) (capacity : ℕ) (bytes : List ℕ) (c : Claim) : Type 0 where
  pub written : List ℕ
  pub files : HasFiles gives true (checked_words words) g capacity (Some bytes) written
  pub spelled : IsClaimSpelled c written

-- but the die was not served
pub record IsClaimUnserved (gives : LoadAnswers) (words : ServeWords) (stopped : CommandFault) : Type 0 where
  pub geometry : Geometry
  pub capacity : ℕ
  pub bytes : List ℕ
  pub claim : Claim
  pub has : HasClaim gives words geometry capacity bytes claim
  pub unserved : IsUnserved geometry capacity bytes claim stopped

-- Why nothing is claimed of an image. Each case says that none before it in the order held. The image's file was loaded whole, so its bytes are known.
abbrev pub IsUnclaimed : LoadAnswers → ServeWords → CommandFault → Type 0
IsUnclaimed gives words stopped =
    IsUnasked (checked_words words) stopped
    ⊎ IsImageUnopened gives (checked_words words) stopped
    ⊎ LacksCertificate gives true (checked_words words) stopped
    ⊎ HasNoCertificate gives true (checked_words words) stopped

-- Why the command ended before anything was read from standard input.
abbrev pub IsServeUnstarted : LoadAnswers → ServeWords → CommandFault → Type 0
IsServeUnstarted gives words stopped = IsUnclaimed gives words stopped ⊎ IsClaimUnserved gives words stopped

-- How it ended after the run: the image was stored, and what stopped the server is told; or it could not be stored, and that is told, after
-- what stopped the server.
abbrev pub EndsServing : List ℕ → List ℕ → Option ServeStop → Option (List Stored) → Option (List Stored) → Result (Unit {0}) CommandFault → Type 0
EndsServing path image how before after (Ok done) = (how ≡ None) × (after ≡ with_store before (written_file path image))
EndsServing path image how before after (Err (fault.Serve stopped)) = (how ≡ Some stopped) × (after ≡ with_store before (written_file path image))
EndsServing path image how before after (Err (fault.Write text)) = (how ≡ None) × (text.now ≡ path) × (after ≡ with_store before (unwritten_file path image))
EndsServing path image how before after (Err fault.OutOfMemory) = (how ≡ None) × (after ≡ before)
EndsServing path image how before after (Err (fault.ServeUnstored stopped text)) = (how ≡ Some stopped) × (text.now ≡ path)
    × ((after ≡ with_store before (unwritten_file path image)) ⊎ (after ≡ before))
EndsServing path image how before after (Err _) = ⊥

-- it ran: requests were served over the image, and it ended so
pub record HasServedImage (gives : LoadAnswers) (words : ServeWords) (unread left : Option (List ℕ)) (before after : Left) (result : Result (Unit {0}) CommandFault) : Type 0 where
  pub geometry : Geometry
  pub capacity : ℕ
  pub bytes : List ℕ
  pub claim : Claim
  pub has : HasClaim gives words geometry capacity bytes claim
  pub image : List ℕ
  pub came : Result Served ServeFault
  pub serves : ServesImage geometry capacity claim bytes image unread left before.out after.out came
  pub ends : EndsServing words.output.now image (stop_in came) before.stores after.stores result

-- nothing was read from standard input, stored or printed
pub record HasNotRun (gives : LoadAnswers) (words : ServeWords) (unread left : Option (List ℕ)) (before after : Left) (stopped : CommandFault) : Type 0 where
  pub leaves : LeavesUntouched before after
  pub unread_is : Keeps unread left
  pub because : IsServeUnstarted gives words stopped

-- What the command came to, with what standard input had, and the stores and the bytes of standard output before and after.
abbrev pub DoesServe : LoadAnswers → ServeWords → Option (List ℕ) → Option (List ℕ) → Left → Left → Result (Unit {0}) CommandFault → Type 0
DoesServe gives words unread left before after (Ok done) = HasServedImage gives words unread left before after (Ok done)
DoesServe gives words unread left before after (Err stopped) = HasNotRun gives words unread left before after stopped ⊎ HasServedImage gives words unread left before after (Err stopped)
