-- From what a step of a command came to, to what the command came to.
use Rattle.std.proofs.Common.{◌≡◌, ◌≢◌, ◌*◌, ◌∙◌, ℕ, Bool, true, false, List, length, Option, Result, Ok, Err, OnOk, IfErr, inl, inr, ap, subst, sym}
use Rattle.std.specs.Io.KnownBytes.{Keeps}
use Rattle.page_layout.specs.declared.geometry.Geometry.{Geometry}
use Rattle.page_layout.specs.Geometry.{row_count, page_bytes}
use Rattle.page_layout.specs.Raw.{raw_image}
use Rattle.commands.specs.declared.sector.PrintFault.{PrintFault}
use Rattle.commands.specs.declared.sector.PrintFault.TheVariants as print
use Rattle.commands.specs.declared.text.CommandFault.{CommandFault}
use Rattle.commands.specs.declared.text.CommandFault.TheVariants as fault
use Rattle.command_words.specs.declared.words.Order.{Order}
use Rattle.command_words.specs.declared.words.Order.TheVariants as order
use Rattle.command_words.specs.declared.words.ImageWords.{ImageWords}
use Rattle.command_words.specs.declared.words.CertificateWords.{CertificateWords}
use Rattle.command_words.specs.declared.words.ServeWords.{ServeWords}
use Rattle.commands.specs.Check.{IsCheckFault}
use Rattle.commands.specs.Mount.{DoesMount}
use Rattle.commands.specs.Serve.{DoesServe, IsServeUnstarted, IsUnclaimed}
use Rattle.commands.specs.Migrate.{DoesMigrate, IsClaimUnmigrated, IsMigrationUnbegun}
use Rattle.commands.specs.Commands.{Obeys, OrderComesTo}
use Rattle.commands.specs.Files.{LoadAnswers, Left, LeavesUntouched}
use Rattle.commands.specs.Inputs.{AreNoNumbers, AreNumbers, TellsUnread}
use Rattle.commands.specs.Sector.{DoesSector, AsksForNumber, HasImage, IsPrintFault, IsSectorUnprinted, IsUnreadable, TellsUnprinted, sector_line}
use Rattle.commands.specs.Show.{DoesShow, IsUnshown, ShowsRowLine}
use Rattle.command_words.specs.Words.{IsOrder}
use Rattle.commands.proofs.WordLemmas.{asks_for}

-- what is so of the fault that ended a step is so of what the step came to
pub ended : {A : Type 0} (P : Result A CommandFault → Type 0) (result : Result A CommandFault) (stop : CommandFault) → result ≡ Err stop → P (Err stop) → P result
ended P result stop is = subst P (sym is)

-- words that are no numbers end the command
pub unnumbered_does : (gives : LoadAnswers) (words : ImageWords) (before after : Option (List ℕ)) (stop : CommandFault)
    → Keeps before after → AreNoNumbers words.geometry.now words.number.now stop → DoesSector gives words before after (Err stop)
unnumbered_does gives words before after (fault.BadNumber word) keeps un = (keeps, un)
unnumbered_does gives words before after (fault.Geometry broken) keeps un = (keeps, un)
unnumbered_does gives words before after _ keeps un = absurd un

pub unnumbered_shows : (gives : LoadAnswers) (words : ImageWords) (before after : Option (List ℕ)) (stop : CommandFault)
    → Keeps before after → AreNoNumbers words.geometry.now words.number.now stop → DoesShow gives words before after (Err stop)
unnumbered_shows gives words before after (fault.BadNumber word) keeps un = (keeps, un)
unnumbered_shows gives words before after (fault.Geometry broken) keeps un = (keeps, un)
unnumbered_shows gives words before after _ keeps un = absurd un

-- so does a file that was not read
pub unread_does : (gives : LoadAnswers) (words : ImageWords) (g : Geometry) (n : ℕ) (before after : Option (List ℕ)) (fault : CommandFault)
    → AsksForNumber words g n → Keeps before after → TellsUnread gives words.image.now fault → DoesSector gives words before after (Err fault)
unread_does gives words g n before after (fault.Read path) asked keeps unread = (keeps, unread.0, unread.1, (g, n, asked))
unread_does gives words g n before after fault.OutOfMemory asked keeps unread = (keeps, inl (g, n, asked, unread))
unread_does gives words g n before after _ asked keeps unread = absurd unread

-- so does a sector that was not printed
pub unprinted_does : (gives : LoadAnswers) (words : ImageWords) (g : Geometry) (n : ℕ) (bytes : List ℕ) (before after : Option (List ℕ)) (why : PrintFault) (stop : CommandFault)
    → HasImage gives words g n bytes → IsPrintFault g (raw_image g bytes) n why → IsSectorUnprinted (sector_line g (raw_image g bytes) n) why before after → TellsUnprinted why stop
    → DoesSector gives words before after (Err stop)
unprinted_does gives words g n bytes before after (print.Sector refused) (fault.Sector told) image why un is =
    (un, (g, n, bytes, image, subst (λ f. IsUnreadable g (raw_image g bytes) n f) (sym is) why))
unprinted_does gives words g n bytes before after print.Write (fault.Write path) image why un is = (is, (g, n, bytes, image, why, un))
unprinted_does gives words g n bytes before after print.OutOfMemory fault.OutOfMemory image why un is = (un, inr (g, n, bytes, image, why))
unprinted_does gives words g n bytes before after _ _ image why un is = absurd is

-- the words are numbers, and the file has as many bytes as the geometry says
pub has_image : (gives : LoadAnswers) (words : ImageWords) (g : Geometry) (n : ℕ) (all bytes : List ℕ) → AreNumbers words.geometry.now words.number.now g n → gives words.image.now (Ok bytes) → all ≡ bytes
    → length all ≡ row_count g * page_bytes g → HasImage gives words g n bytes
has_image gives words g n all bytes asked given same whole = record { asked = asks_for words g n asked; given = given; whole = ap length (sym same) ∙ whole }

-- or it has not
pub not_whole : (g : Geometry) (all bytes : List ℕ) → (length all ≡ row_count g * page_bytes g → false ≡ true) → all ≡ bytes → length bytes ≢ row_count g * page_bytes g
not_whole g all bytes takes same whole = let clash : false ≡ true = takes (ap length same ∙ whole) in cc

pub unread_shows : (gives : LoadAnswers) (words : ImageWords) (g : Geometry) (n : ℕ) (before after : Option (List ℕ)) (fault : CommandFault)
    → AsksForNumber words g n → Keeps before after → TellsUnread gives words.image.now fault → DoesShow gives words before after (Err fault)
unread_shows gives words g n before after (fault.Read path) asked keeps unread = (keeps, unread.0, unread.1, (g, n, asked))
unread_shows gives words g n before after fault.OutOfMemory asked keeps unread = (keeps, (g, n, asked, unread))
unread_shows gives words g n before after _ asked keeps unread = absurd unread

-- what became of the page of a row
pub shown_does : (gives : LoadAnswers) (words : ImageWords) (g : Geometry) (n : ℕ) (bytes : List ℕ) (before after : Option (List ℕ)) (result : Result (Unit {0}) CommandFault)
    → HasImage gives words g n bytes → OnOk result (ShowsRowLine g (raw_image g bytes) n before after) → IfErr result (IsUnshown g (raw_image g bytes) n before after)
    → DoesShow gives words before after result
shown_does gives words g n bytes before after (Ok done) image shown unshown = (g, n, bytes, image, shown)
shown_does gives words g n bytes before after (Err fault.RowRange) image shown unshown = (g, n, bytes, image, unshown)
shown_does gives words g n bytes before after (Err (fault.Write path)) image shown unshown = (g, n, bytes, image, unshown)
shown_does gives words g n bytes before after (Err _) image shown unshown = absurd unshown

-- words that are an order are never called no command
check_is_command : (gives : LoadAnswers) (tells : Bool) (words : CertificateWords) (before after : Option (List ℕ)) → IsCheckFault gives tells words before after fault.NoSuchCommand → ⊥
check_is_command gives tells words before after (inl unasked) = unasked
check_is_command gives tells words before after (inr (inl unopened)) = unopened.unread
check_is_command gives tells words before after (inr (inr (inl lacks))) = lacks.unread
check_is_command gives tells words before after (inr (inr (inr (inl malformed)))) = malformed.broken
check_is_command gives tells words before after (inr (inr (inr (inr (inl unheld))))) = unheld.1
check_is_command gives tells words before after (inr (inr (inr (inr (inr unprinted))))) = unprinted.2

mount_is_command : (gives : LoadAnswers) (words : CertificateWords) (before after : Left) → DoesMount gives words before after (Err fault.NoSuchCommand) → ⊥
mount_is_command gives words before after (inl (leaves, inl unasked)) = unasked
mount_is_command gives words before after (inl (leaves, inr (inl unopened))) = unopened.unread
mount_is_command gives words before after (inl (leaves, inr (inr lacks))) = lacks.unmounted
mount_is_command gives words before after (inr (inl unstored)) = unstored.1
mount_is_command gives words before after (inr (inr unprinted)) = unprinted.2

-- for want of memory nothing is left
mount_leaves : (gives : LoadAnswers) (words : CertificateWords) (before after : Left) → DoesMount gives words before after (Err fault.OutOfMemory) → LeavesUntouched before after
mount_leaves gives words before after (inl unstarted) = unstarted.0
mount_leaves gives words before after (inr (inl unstored)) = (unstored.1, unstored.2)
mount_leaves gives words before after (inr (inr unprinted)) = absurd unprinted.2

claim_is_command : (gives : LoadAnswers) (words : ServeWords) → IsUnclaimed gives words fault.NoSuchCommand → ⊥
claim_is_command gives words (inl unasked) = unasked
claim_is_command gives words (inr (inl unopened)) = unopened.unread
claim_is_command gives words (inr (inr (inl lacks))) = lacks.unread
claim_is_command gives words (inr (inr (inr malformed))) = malformed.broken

serve_is_command : (gives : LoadAnswers) (words : ServeWords) (unread left : Option (List ℕ)) (before after : Left) → DoesServe gives words unread left before after (Err fault.NoSuchCommand) → ⊥
serve_is_command gives words unread left before after (inl none) = unstarted none.because
  where
    unstarted : IsServeUnstarted gives words fault.NoSuchCommand → ⊥
    unstarted (inl unclaimed) = claim_is_command gives words unclaimed
    unstarted (inr unserved) = unserved.unserved
serve_is_command gives words unread left before after (inr ran) = ran.ends

migrate_is_command : (gives : LoadAnswers) (words : ServeWords) (before after : Left) → DoesMigrate gives words before after (Err fault.NoSuchCommand) → ⊥
migrate_is_command gives words before after (inl none) = unbegun none.1
  where
    unmade : (has : IsClaimUnmigrated gives words fault.NoSuchCommand) → ⊥
    unmade has = elim has.unmigrated [
      | inl no_die ↦ no_die
      | inr no_device ↦ no_device.1
    ]

    unbegun : IsMigrationUnbegun gives words fault.NoSuchCommand → ⊥
    unbegun (inl unclaimed) = claim_is_command gives words unclaimed
    unbegun (inr unmigrated) = unmade unmigrated
migrate_is_command gives words before after (inr (inl (image, came, has, short, keeps))) = short
migrate_is_command gives words before after (inr (inr (image, count, has, stored, unprinted))) = unprinted

-- what the order of the words came to, the words came to
pub order_obeys : (gives : LoadAnswers) (tells : Bool) (words : List (List ℕ)) (unread left : Option (List ℕ)) (before after : Left) (result : Result (Unit {0}) CommandFault) (asked : Order)
    → IsOrder words asked → OrderComesTo gives tells asked unread left before after result → Obeys gives tells words unread left before after result
order_obeys gives tells words unread left before after (Ok done) asked is does = (asked, is, does)
order_obeys gives tells words unread left before after (Err fault.NoSuchCommand) (order.Sector w) is does = absurd does.0
order_obeys gives tells words unread left before after (Err fault.NoSuchCommand) (order.Show w) is does = absurd does.0
order_obeys gives tells words unread left before after (Err fault.NoSuchCommand) (order.Format w) is does = absurd does.0
order_obeys gives tells words unread left before after (Err fault.NoSuchCommand) (order.Check w) is does = absurd (check_is_command gives tells w before.out after.out does.0.1)
order_obeys gives tells words unread left before after (Err fault.NoSuchCommand) (order.Mount w) is does = absurd (mount_is_command gives w before after does.0)
order_obeys gives tells words unread left before after (Err fault.NoSuchCommand) (order.Serve w) is does = absurd (serve_is_command gives w unread left before after does)
order_obeys gives tells words unread left before after (Err fault.NoSuchCommand) (order.Migrate w) is does = absurd (migrate_is_command gives w before after does.0)
order_obeys gives tells words unread left before after (Err fault.OutOfMemory) (order.Sector w) is does = inl ((does.1, does.0.0), does.2)
order_obeys gives tells words unread left before after (Err fault.OutOfMemory) (order.Show w) is does = inl ((does.1, does.0.0), does.2)
order_obeys gives tells words unread left before after (Err fault.OutOfMemory) (order.Format w) is does = inl (does.0.0, does.1)
order_obeys gives tells words unread left before after (Err fault.OutOfMemory) (order.Check w) is does = inl ((does.1, does.0.0), does.2)
order_obeys gives tells words unread left before after (Err fault.OutOfMemory) (order.Mount w) is does = inl (mount_leaves gives w before after does.0, does.1)
order_obeys gives tells words unread left before after (Err fault.OutOfMemory) (order.Serve w) is does = inr (order.Serve w, is, does)
order_obeys gives tells words unread left before after (Err fault.OutOfMemory) (order.Migrate w) is does = inr (order.Migrate w, is, does)
order_obeys gives tells words unread left before after (Err _) asked is does = (asked, is, does)
