-- A disk that was flushed and opened again: its bytes, and with which cache.
use Rattle.std.proofs.Common.{◌≡◌, ◌≢◌, inl, inr, ℕ, Bool, true, false, List, Result, Ok, Err, IfOk, IfErr, sym, ◌∙◌, subst}
use Rattle.onfi_cycles.specs.Driver.{DriverState}
use Rattle.file_die.specs.Die.{FileState}
use Rattle.file_die.specs.Store.{Held}
use Rattle.image_check.specs.declared.refusal.Refusal.TheVariants.{Source, TooStale}
use Rattle.mount.specs.Mounted.{Refuses}
use Rattle.ftl_device.specs.declared.device.Device.{Device}
use Rattle.disk_server.specs.declared.opened.OpenStoreFault.{OpenStoreFault}
use Rattle.disk_server.specs.declared.opened.OpenStoreFault.TheVariants as why
use Rattle.disk_server.specs.Opened.{ComesBack, IsUnstarted}
use Rattle.disk_server.specs.Stopped.{AsksToFlush, HasRoomFor, IsLastFault, IsOpenedBy, IsOpenedEither, IsOpenedFlushed, IsOpenedNeither, IsOpenedWith, IsStale, IsUnopenedLater, IsUnopenedStale, OwnCacheLaw, UnwrittenCacheLaw}

-- with H for an honest store, A for a disk that held its array once it was flushed, G for the store that came of it, honest; and the bytes of each
pub reopened : {D E : Type 0} (bytes : D → List ℕ) (H A G : Type 0) (was back : List ℕ)
    → (result : Result D E) → (H → A) → (H → A → back ≡ was) → (A → G)
    → IfOk result (λ d. G → bytes d ≡ back) → IfOk result (λ d. H → bytes d ≡ was)
reopened bytes H A G was back (Ok d) held same given opened = λ h. opened (given (held h)) ∙ same h (held h)
reopened bytes H A G was back (Err e) held same given opened = tt

-- and holds them, where the store that came of it is honest
pub held_again : {D E : Type 0} (holds : D → Bool) (H : Type 0) (given : Bool) → (result : Result D E) → (H → given ≡ true)
    → IfOk result (λ d. holds d ≡ given) → IfOk result (λ d. H → holds d ≡ true)
held_again holds H given (Ok d) is opened = λ h. opened ∙ is h
held_again holds H given (Err e) is opened = tt

-- ---- a store that was refused for its stale sectors

no_reset : (stale asked : ℕ) → why.Mount (TooStale stale asked) ≢ why.Reset
no_reset stale asked = λ e. cc

no_source : (stale asked : ℕ) → why.Mount (TooStale stale asked) ≢ why.Mount Source
no_source stale asked = λ e. cc

-- it came back as it was
pub was_stale : {S : Type 0} (held : S → Held) (honest : S → Bool) (failed : S → ℕ) (store given : S) (capacity share stale : ℕ) (fault : OpenStoreFault)
    → HasRoomFor fault stale → IsUnstarted held honest failed store capacity share given fault → ComesBack held honest store fault given → IsStale held honest store capacity stale given
was_stale held honest failed store given capacity share stale fault room is back = record {
  asked = room.capacity;
  refuses = (subst (IsUnstarted held honest failed store capacity share given) room.is is).refuses;
  come = record {
    as_honest = back.as_honest;
    geometry = λ h. back.geometry h (λ e. no_reset stale room.capacity (sym room.is ∙ e));
    pages = λ h. back.pages h (λ e. no_reset stale room.capacity (sym room.is ∙ e)) (λ e. no_source stale room.capacity (sym room.is ∙ e));
  };
  least = room.least;
  most = room.most;
}

-- ---- one that was flushed

module _ {S A : Type 0} (held : S → Held) (honest : S → Bool) (failed : S → ℕ) (entries : A → ℕ) (capacity stale share : ℕ) (left : Device (DriverState (FileState S)))
    (asks : AsksToFlush held honest failed stale share (Ok tt) left) (given : S) (is : given ≡ left.engine.nand.bus.store) where
  pub then_opened : (result : Result A (S × OpenStoreFault)) → IfOk result (λ d. IsOpenedEither held honest given capacity stale (entries d)) → IfOk result (λ d. IsOpenedFlushed held honest failed capacity stale share (entries d))
  then_opened (Ok d) either = (left, asks, subst (λ s. IsOpenedEither held honest s capacity stale (entries d)) is either)
  then_opened (Err e) either = tt

  pub then_unopened : (store : S) (result : Result A (S × OpenStoreFault)) → IfErr result (λ e. IsOpenedNeither held honest failed given capacity stale share e.0 e.1) → IfErr result (λ e. IsUnopenedStale held honest failed store capacity stale share e.0 e.1)
  then_unopened store (Ok d) neither = tt
  then_unopened store (Err e) neither = inr (inr (left, asks, subst (λ s. IsOpenedNeither held honest failed s capacity stale share e.0 e.1) is neither))

-- once more: not with as many entries as were stale before
pub neither : {S A : Type 0} (held : S → Held) (honest : S → Bool) (failed : S → ℕ) (store given : S) (capacity again stale share : ℕ) (result : Result A (S × OpenStoreFault))
    → IsStale held honest store capacity again given → IfErr result (λ e. IsLastFault held honest failed given stale share e.0 e.1) → IfErr result (λ e. IsOpenedNeither held honest failed store capacity stale share e.0 e.1)
neither held honest failed store given capacity again stale share (Ok d) was last = tt
neither held honest failed store given capacity again stale share (Err e) was last = inr (again, given, was, last)

pub either : {S A : Type 0} (held : S → Held) (honest : S → Bool) (entries : A → ℕ) (store given : S) (capacity again stale : ℕ) (result : Result A (S × OpenStoreFault))
    → IsStale held honest store capacity again given → IfOk result (λ d. entries d ≡ stale) → IfOk result (λ d. IsOpenedEither held honest store capacity stale (entries d))
either held honest entries store given capacity again stale (Ok d) was is = inr ((again, given, was), is)
either held honest entries store given capacity again stale (Err e) was is = tt

-- ---- what a later attempt comes to

pub opened_later : {S A : Type 0} (held : S → Held) (honest : S → Bool) (failed : S → ℕ) (entries : A → ℕ) (writes : Bool) (store given : S) (capacity stale share : ℕ) (result : Result A (S × OpenStoreFault))
    → IsStale held honest store capacity stale given → IfOk result (λ d. IsOpenedBy held honest failed writes capacity stale share (entries d))
    → IfOk result (λ d. IsOpenedWith held honest failed writes store capacity share (entries d))
opened_later held honest failed entries writes store given capacity stale share (Ok d) was is = inr (stale, given, was, is)
opened_later held honest failed entries writes store given capacity stale share (Err e) was is = tt

pub by_writes : {S A : Type 0} (held : S → Held) (honest : S → Bool) (failed : S → ℕ) (entries : A → ℕ) (writes : Bool) (capacity stale share : ℕ) (result : Result A (S × OpenStoreFault)) → writes ≡ true
    → IfOk result (λ d. IsOpenedFlushed held honest failed capacity stale share (entries d)) → IfOk result (λ d. IsOpenedBy held honest failed writes capacity stale share (entries d))
by_writes held honest failed entries writes capacity stale share (Ok d) write is = subst (λ b. IsOpenedBy held honest failed b capacity stale share (entries d)) (sym write) is
by_writes held honest failed entries writes capacity stale share (Err e) write is = tt

pub by_reads : {S A : Type 0} (held : S → Held) (honest : S → Bool) (failed : S → ℕ) (entries : A → ℕ) (writes : Bool) (capacity stale share : ℕ) (result : Result A (S × OpenStoreFault)) → writes ≡ false
    → IfOk result (λ d. entries d ≡ stale) → IfOk result (λ d. IsOpenedBy held honest failed writes capacity stale share (entries d))
by_reads held honest failed entries writes capacity stale share (Ok d) read is = subst (λ b. IsOpenedBy held honest failed b capacity stale share (entries d)) (sym read) is
by_reads held honest failed entries writes capacity stale share (Err e) read is = tt

pub later : {S A : Type 0} (held : S → Held) (honest : S → Bool) (failed : S → ℕ) (store given : S) (capacity stale share : ℕ) (result : Result A (S × OpenStoreFault))
    → IsStale held honest store capacity stale given → IfErr result (λ e. IsUnopenedStale held honest failed given capacity stale share e.0 e.1) → IfErr result (λ e. IsUnopenedLater held honest failed store capacity share e.0 e.1)
later held honest failed store given capacity stale share (Ok d) was is = tt
later held honest failed store given capacity stale share (Err e) was is = inr (stale, given, was, is)

pub last_fault : {S A : Type 0} (held : S → Held) (honest : S → Bool) (failed : S → ℕ) (store : S) (capacity stale share : ℕ) (result : Result A (S × OpenStoreFault))
    → IfErr result (λ e. IsLastFault held honest failed store stale share e.0 e.1) → IfErr result (λ e. IsUnopenedStale held honest failed store capacity stale share e.0 e.1)
last_fault held honest failed store capacity stale share (Ok d) is = tt
last_fault held honest failed store capacity stale share (Err e) is = inl is

-- the pages, by whether they may be written
pub unwritten : {A E : Type 0} (P Q : A → Type 0) (writes : Bool) (result : Result A E) → writes ≡ true → IfOk result (λ d. writes ≡ false → P d → Q d)
unwritten P Q writes (Ok d) write = λ read. (let both : true ≡ false = sym write ∙ read in (let never : ⊥ = cc in absurd never))
unwritten P Q writes (Err e) write = tt

-- ---- laws

pub own_cache : {S : Type 0} (held : S → Held) (honest : S → Bool) (failed : S → ℕ) → OwnCacheLaw held honest failed
own_cache held honest failed writes store capacity share entries h room (inl own) = own
own_cache held honest failed writes store capacity share entries h room (inr larger) = absurd (room larger.0 larger.2.asked (larger.2.refuses h))

pub unwritten_cache : {S : Type 0} (held : S → Held) (honest : S → Bool) (failed : S → ℕ) → UnwrittenCacheLaw held honest failed
unwritten_cache held honest failed store capacity share entries h (inl own) = inl own
unwritten_cache held honest failed store capacity share entries h (inr larger) =
    inr (larger.2.asked, subst (λ n. Refuses (held store).geometry capacity (held store).pages (TooStale n larger.2.asked)) (sym larger.3) (larger.2.refuses h))
