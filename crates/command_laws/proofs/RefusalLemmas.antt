-- What a refusal says of what the command was given, command by command.
use Rattle.std.proofs.Common.{◌≡◌, ◌⊎◌, ℕ, ◌<◌, ◌≤◌, Bool, List, [], ◌∷◌, ◌++◌, codes, Option, Some, None, Result, Ok, Err, inl, inr, refl, sym, ◌∙◌, ap, subst}
use Rattle.std.specs.Borrow.{Bor}
use Rattle.std.specs.Io.KnownBytes.{Keeps}
use Rattle.page_layout.specs.declared.geometry.Geometry.{Geometry}
use Rattle.page_layout.specs.Geometry.{need, row_count}
use Rattle.page_layout.specs.Raw.{raw_image}
use Rattle.mount.specs.Formatted.{good_after}
use Rattle.program_words.specs.Numbers.{number_of}
use Rattle.command_words.specs.declared.words.CertificateWords.{CertificateWords}
use Rattle.command_words.specs.declared.words.ServeWords.{ServeWords}
use Rattle.command_words.specs.declared.words.Order.{Order}
use Rattle.command_words.specs.declared.words.Order.TheVariants as order
use Rattle.command_words.specs.Words.{IsOrder}
use Rattle.commands.specs.declared.files.FileFault.{FileFault}
use Rattle.commands.specs.declared.files.FileFault.TheVariants.{Failed}
use Rattle.commands.specs.declared.text.CommandFault.{CommandFault}
use Rattle.commands.specs.declared.text.CommandFault.TheVariants as fault
use Rattle.commands.specs.declared.text.ServeStop.{ServeStop}
use Rattle.commands.specs.Files.{Left, Stored, with_store, unwritten_file}
use Rattle.commands.specs.Check.{IsUnasked}
use Rattle.commands.specs.Serve.{EndsServing, IsUnclaimed, checked_words, stop_in}
use Rattle.commands.specs.Text.{stop_words}
use Rattle.commands.specs.Commands.{DoesOrder, Obeys, OrderComesTo}
use Rattle.command_laws.proofs.AskedLemmas.{one_asked, one_format}
use Rattle.command_laws.specs.Refusals.{CapacityLaw, InputKeptLaw, RowPastDieLaw, SectorPastLastLaw, StopToldLaw, TellsStop, TooFewGoodLaw, UnreadFileLaw}

-- ---- how a server's run ended

abbrev some_stop : ServeStop → Option ServeStop
some_stop stopped = Some stopped

abbrev no_stop : Option ServeStop
no_stop = None

never_both : (how : Option ServeStop) (stopped : ServeStop) → how ≡ None → how ≡ Some stopped → ⊥
never_both how stopped none some = (let clash : no_stop ≡ some_stop stopped = sym none ∙ some in cc)

one_stop : (how : Option ServeStop) (one other : ServeStop) → how ≡ Some one → how ≡ Some other → one ≡ other
one_stop how one other is also = (let same : some_stop one ≡ some_stop other = sym is ∙ also in cc)

-- a stop that came is told first, and where none came the store was not done
abbrev EndsTold : List ℕ → List ℕ → Option ServeStop → Option (List Stored) → Option (List Stored) → CommandFault → Type 0
EndsTold path image how before after told = ((stopped : ServeStop) → how ≡ Some stopped → TellsStop stopped told)
    × (how ≡ None → (after ≡ with_store before (unwritten_file path image)) ⊎ (after ≡ before))

ends_told : (path image : List ℕ) (how : Option ServeStop) (before after : Option (List Stored)) (told : CommandFault)
    → EndsServing path image how before after (Err told) → EndsTold path image how before after told
ends_told path image how before after (fault.Serve one) (is, stored) = (
  λ stopped came. ([], ap (λ s. stop_words s ++ []) (one_stop how one stopped is came)),
  λ none. absurd (never_both how one none is),
)
ends_told path image how before after (fault.ServeUnstored one text) (is, at, tried) = (
  λ stopped came. (10 ∷ (codes "fault write " ++ text.now), ap (λ s. stop_words s ++ (10 ∷ (codes "fault write " ++ text.now))) (one_stop how one stopped is came)),
  λ none. absurd (never_both how one none is),
)
ends_told path image how before after (fault.Write text) (none, at, tried) = (λ stopped came. absurd (never_both how stopped none came), λ also. inl tried)
ends_told path image how before after fault.OutOfMemory (none, kept) = (λ stopped came. absurd (never_both how stopped none came), λ also. inr kept)
ends_told path image how before after _ ends = absurd ends

module _ {F : Type 0} (gives : F → List ℕ → Result (List ℕ) FileFault → Type 0) where
  pub row_past : RowPastDieLaw gives
  row_past store words before after (h, n, bytes, has, (is, keeps)) g row asks =
      let one = one_asked words h g n row has.asked asks in
      subst (λ r. row_count g ≤ r) one.1 (subst (λ k. row_count k ≤ n) one.0 is)

  pub sector_past : SectorPastLastLaw gives
  sector_past store words before after (keeps, (h, m, bytes, has, is)) g n asks =
      let one = one_asked words h g m n has.asked asks in
      subst (λ r. g.sectors ≤ r) one.1 (subst (λ (k : Geometry). k.sectors ≤ m) one.0 is)

  pub too_few : TooFewGoodLaw gives
  too_few store words before after good asked (leaves, (h, bytes, has, (whole, (is, few, needs)))) = (
    subst (λ n. good < n) (sym needs) few,
    λ g sized.
        let one = one_format words h g has.asked sized in
        (needs ∙ ap need one, (bytes, has.given, is ∙ ap (λ k. good_after k (raw_image k bytes) []) one)),
  )

  -- ---- a capacity

  unasked_capacity : (words : CertificateWords) → IsUnasked words fault.Capacity → (n : ℕ) × (number_of words.capacity.now ≡ Some n) × ((n ≡ 0) ⊎ (65536 < n))
  unasked_capacity words why = (why.2, why.4, why.6)

  unclaimed_capacity : (store : F) (words : ServeWords) → IsUnclaimed (gives store) words fault.Capacity → (n : ℕ) × (number_of words.capacity.now ≡ Some n) × ((n ≡ 0) ⊎ (65536 < n))
  unclaimed_capacity store words (inl why) = unasked_capacity (checked_words words) why
  unclaimed_capacity store words (inr (inl unopened)) = absurd unopened.unread
  unclaimed_capacity store words (inr (inr (inl lacks))) = absurd lacks.unread
  unclaimed_capacity store words (inr (inr (inr none))) = absurd none.broken

  pub capacity : CapacityLaw gives
  capacity store tells (order.Sector words) unread left before after does = absurd does.0
  capacity store tells (order.Show words) unread left before after does = absurd does.0
  capacity store tells (order.Format words) unread left before after does = absurd does.0
  capacity store tells (order.Check words) unread left before after ((kept, inl why), stores, still) = unasked_capacity words why
  capacity store tells (order.Check words) unread left before after ((kept, inr (inl unopened)), stores, still) = absurd unopened.unread
  capacity store tells (order.Check words) unread left before after ((kept, inr (inr (inl lacks))), stores, still) = absurd lacks.unread
  capacity store tells (order.Check words) unread left before after ((kept, inr (inr (inr (inl none)))), stores, still) = absurd none.broken
  capacity store tells (order.Check words) unread left before after ((kept, inr (inr (inr (inr (inl (has, not)))))), stores, still) = absurd not
  capacity store tells (order.Check words) unread left before after ((kept, inr (inr (inr (inr (inr (has, holds, line)))))), stores, still) = absurd line
  capacity store tells (order.Mount words) unread left before after (inl (leaves, inl why), kept) = unasked_capacity words why
  capacity store tells (order.Mount words) unread left before after (inl (leaves, inr (inl unopened)), kept) = absurd unopened.unread
  capacity store tells (order.Mount words) unread left before after (inl (leaves, inr (inr lacks)), kept) = absurd lacks.unmounted
  capacity store tells (order.Mount words) unread left before after (inr (inl (has, not, keeps)), kept) = absurd not
  capacity store tells (order.Mount words) unread left before after (inr (inr (has, stored, line)), kept) = absurd line
  capacity store tells (order.Serve words) unread left before after (inl never) = elim never.because [
    | inl why ↦ unclaimed_capacity store words why
    | inr claim ↦ absurd claim.unserved
  ]
  capacity store tells (order.Serve words) unread left before after (inr ran) = absurd ran.ends
  capacity store tells (order.Migrate words) unread left before after (inl (leaves, inl why), kept) = unclaimed_capacity store words why
  capacity store tells (order.Migrate words) unread left before after (inl (leaves, inr claim), kept) = elim claim.unmigrated [
    | inl unmade ↦ absurd unmade
    | inr unmigrated ↦ absurd unmigrated.1
  ]
  capacity store tells (order.Migrate words) unread left before after (inr (inl (image, came, has, ends, keeps)), kept) = absurd ends
  capacity store tells (order.Migrate words) unread left before after (inr (inr (image, count, has, stored, line)), kept) = absurd line

  -- ---- a file

  read_of : (store : F) (path : Bor (List ℕ)) (text : List ℕ) → path.now ≡ text → gives store text (Err Failed) → gives store path.now (Err Failed)
  read_of store path text is failed = subst (λ t. gives store t (Err Failed)) (sym is) failed

  unclaimed_read : (store : F) (path : Bor (List ℕ)) (words : ServeWords) → IsUnclaimed (gives store) words (fault.Read path) → gives store path.now (Err Failed)
  unclaimed_read store path words (inl why) = absurd why
  unclaimed_read store path words (inr (inl unopened)) = read_of store path words.image.now unopened.unread.0 unopened.unread.1
  unclaimed_read store path words (inr (inr (inl lacks))) = read_of store path words.certificate.now lacks.unread.0 lacks.unread.1
  unclaimed_read store path words (inr (inr (inr none))) = absurd none.broken

  pub unread_file : UnreadFileLaw gives
  unread_file store tells (order.Sector words) unread left before after path ((keeps, is, failed, asked), stores, still) = inl (read_of store path words.image.now is failed)
  unread_file store tells (order.Show words) unread left before after path ((keeps, is, failed, asked), stores, still) = inl (read_of store path words.image.now is failed)
  unread_file store tells (order.Format words) unread left before after path ((leaves, is, failed, asked), kept) = inl (read_of store path words.input.now is failed)
  unread_file store tells (order.Check words) unread left before after path ((kept, inl why), stores, still) = absurd why
  unread_file store tells (order.Check words) unread left before after path ((kept, inr (inl unopened)), stores, still) = inl (read_of store path words.image.now unopened.unread.0 unopened.unread.1)
  unread_file store tells (order.Check words) unread left before after path ((kept, inr (inr (inl lacks))), stores, still) = inl (read_of store path words.certificate.now lacks.unread.0 lacks.unread.1)
  unread_file store tells (order.Check words) unread left before after path ((kept, inr (inr (inr (inl none)))), stores, still) = absurd none.broken
  unread_file store tells (order.Check words) unread left before after path ((kept, inr (inr (inr (inr (inl (has, not)))))), stores, still) = inr not.1
  unread_file store tells (order.Check words) unread left before after path ((kept, inr (inr (inr (inr (inr (has, holds, line)))))), stores, still) = absurd line
  unread_file store tells (order.Mount words) unread left before after path (inl (leaves, inl why), kept) = absurd why
  unread_file store tells (order.Mount words) unread left before after path (inl (leaves, inr (inl unopened)), kept) = inl (read_of store path words.image.now unopened.unread.0 unopened.unread.1)
  unread_file store tells (order.Mount words) unread left before after path (inl (leaves, inr (inr lacks)), kept) = absurd lacks.unmounted
  unread_file store tells (order.Mount words) unread left before after path (inr (inl (has, not, keeps)), kept) = absurd not
  unread_file store tells (order.Mount words) unread left before after path (inr (inr (has, stored, line)), kept) = absurd line
  unread_file store tells (order.Serve words) unread left before after path (inl never) = elim never.because [
    | inl why ↦ inl (unclaimed_read store path words why)
    | inr claim ↦ absurd claim.unserved
  ]
  unread_file store tells (order.Serve words) unread left before after path (inr ran) = absurd ran.ends
  unread_file store tells (order.Migrate words) unread left before after path (inl (leaves, inl why), kept) = inl (unclaimed_read store path words why)
  unread_file store tells (order.Migrate words) unread left before after path (inl (leaves, inr claim), kept) = elim claim.unmigrated [
    | inl unmade ↦ absurd unmade
    | inr unmigrated ↦ absurd unmigrated.1
  ]
  unread_file store tells (order.Migrate words) unread left before after path (inr (inl (image, came, has, ends, keeps)), kept) = absurd ends
  unread_file store tells (order.Migrate words) unread left before after path (inr (inr (image, count, has, stored, line)), kept) = absurd line

  -- ---- a stop

  pub stop_told : StopToldLaw gives
  stop_told store words unread left before after told (inl never) = inl (never.leaves, never.unread_is)
  stop_told store words unread left before after told (inr ran) =
      let ends = ends_told words.output.now ran.image (stop_in ran.came) before.stores after.stores told ran.ends in
      inr (ran, ends.0, ends.1)

  -- ---- standard input

  order_kept : (store : F) (tells : Bool) (asked : Order) (unread left : Option (List ℕ)) (before after : Left) (result : Result (Unit {0}) CommandFault)
      → OrderComesTo (gives store) tells asked unread left before after result → Keeps unread left ⊎ ((words : ServeWords) × (asked ≡ order.Serve words))
  order_kept store tells (order.Sector words) unread left before after result does = inl does.2
  order_kept store tells (order.Show words) unread left before after result does = inl does.2
  order_kept store tells (order.Format words) unread left before after result does = inl does.1
  order_kept store tells (order.Check words) unread left before after result does = inl does.2
  order_kept store tells (order.Mount words) unread left before after result does = inl does.1
  order_kept store tells (order.Serve words) unread left before after result does = inr (words, refl)
  order_kept store tells (order.Migrate words) unread left before after result does = inl does.1

  does_kept : (store : F) (tells : Bool) (words : List (List ℕ)) (unread left : Option (List ℕ)) (before after : Left) (result : Result (Unit {0}) CommandFault)
      → DoesOrder (gives store) tells words unread left before after result → Keeps unread left ⊎ ((serve : ServeWords) × IsOrder words (order.Serve serve))
  does_kept store tells words unread left before after result (asked, is, comes) = elim (order_kept store tells asked unread left before after result comes) [
    | inl kept ↦ inl kept
    | inr serves ↦ inr (serves.0, subst (λ o. IsOrder words o) serves.1 is)
  ]

  obeys_kept : (store : F) (tells : Bool) (words : List (List ℕ)) (unread left : Option (List ℕ)) (before after : Left) (result : Result (Unit {0}) CommandFault)
      → Obeys (gives store) tells words unread left before after result → Keeps unread left ⊎ ((serve : ServeWords) × IsOrder words (order.Serve serve))
  obeys_kept store tells words unread left before after (Err fault.NoSuchCommand) (leaves, kept, none) = inl kept
  obeys_kept store tells words unread left before after (Err fault.OutOfMemory) (inl (leaves, kept)) = inl kept
  obeys_kept store tells words unread left before after (Err fault.OutOfMemory) (inr does) = does_kept store tells words unread left before after (Err fault.OutOfMemory) does
  obeys_kept store tells words unread left before after (Err stop) does = does_kept store tells words unread left before after (Err stop) does
  obeys_kept store tells words unread left before after (Ok done) does = does_kept store tells words unread left before after (Ok done) does

  pub input_kept : InputKeptLaw gives
  input_kept store tells words unread left before after taken taking told telling status (done, obeys, takes, tells_it) = obeys_kept store tells words unread left before after done obeys
