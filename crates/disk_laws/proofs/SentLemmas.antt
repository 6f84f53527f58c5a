-- What the cycles of a driver come to in the store of its die.
use Rattle.std.proofs.Common.{◌≡◌, ◌⊎◌, inl, inr, ℕ, Bool, true, false, List, [], ◌∷◌, ◌++◌, Ok, Err, refl, sym, ap, subst, ◌∙◌, Result}
use Rattle.onfi_cycles.specs.declared.nand.BusFault.{BusFault}
use Rattle.onfi_cycles.specs.declared.nand.Outcome.{Outcome}
use Rattle.onfi_cycles.specs.Cycles.{Command, Cycle, DataOut, DieState, Does, Due, NoOutput, Phase, Ready, StatusOut, command_due, due_of, to_phase}
use Rattle.onfi_cycles.specs.Sent.{Operates, Sent, SentUntil}
use Rattle.onfi_cycles.specs.Spelling.{FailsIn, Taken, confirm_cycles}
use Rattle.onfi_cycles.proofs.Leads.{LeadTo, moved}
use Rattle.onfi_cycles.proofs.Noting.{sent_split}
use Rattle.onfi_cycles.proofs.Operations.{IsConfirm, confirm_ready, status_leads}
use Rattle.file_die.specs.Die.{ActsOnCycle, ActsOverStore, FileState, Leaves, shown}
use Rattle.file_die.specs.Store.{Held}

-- cycles up to one that was refused, in two parts
until_split : {B : Type 0} → (called : B → Cycle → Result (Unit {0}) BusFault → List ℕ → B → Type 0) (a c : B) (xs ys : List Cycle) (fault : BusFault) → SentUntil called a (xs ++ ys) fault c
    → SentUntil called a xs fault c ⊎ ((b : B) × (out : List ℕ) × Sent called a xs out b × SentUntil called b ys fault c)
until_split called a c [] ys fault s = inr (a, [], (refl, refl), s)
until_split called a c (x ∷ xs) ys fault (inl s) = inl (inl s)
until_split called a c (x ∷ xs) ys fault (inr (mid, out, one, s)) = elim (until_split called mid c xs ys fault s) [
  | inl first ↦ inl (inr (mid, out, one, first))
  | inr second ↦ inr (second.0, out ++ second.1, (mid, out, second.1, refl, one, second.2), second.3)
]

module _ {S : Type 0} (held : S → Held) (honest : S → Bool) (failed : S → ℕ) where
  -- cycles that do no operation leave the store
  pub record Quiet (a b : FileState S) (q : Phase) : Type 0 where
    pub shows : shown held b ≡ to_phase q (shown held a)
    pub store : held b.store ≡ held a.store
    pub still : honest b.store ≡ true
    pub syncs : b.sync_when ≡ a.sync_when

  pub quiet : (a b : FileState S) (xs : List Cycle) (out : List ℕ) (q : Phase) → honest a.store ≡ true → LeadTo (shown held a).flash.geometry (shown held a).phase xs q
      → Sent (ActsOnCycle held honest failed) a xs out b → Quiet a b q
  quiet a b [] out q h l s = record {
    shows = ap (shown held) s.1 ∙ ap (λ p. to_phase p (shown held a)) (sym l);
    store = ap (λ (d : FileState S). held d.store) s.1;
    still = ap (λ (d : FileState S). honest d.store) s.1 ∙ h;
    syncs = ap (λ (d : FileState S). d.sync_when) s.1;
  }
  quiet a b (x ∷ xs) out q h l s =
      let m : FileState S = s.0 in
      let act : ActsOverStore held honest failed (due_of (held a.store).geometry a.phase x) a m (Ok tt) = s.4 in
      let at : shown held m ≡ to_phase l.0 (shown held a) =
      moved (shown held a) (shown held m) (due_of (held a.store).geometry a.phase x) l.0 l.1 (act.follows h) in
      let same : held m.store ≡ held a.store = subst (λ due. Leaves due (shown held a).flash a.sync_when (held a.store) true (held m.store)) l.1 (act.leaves h) in
      let rest = quiet m b xs s.2 q (act.as_honest ∙ h) (subst (λ (d : DieState). LeadTo d.flash.geometry d.phase xs q) (sym at) l.3) s.5 in
      record { shows = rest.shows ∙ ap (to_phase q) at; store = rest.store ∙ same; still = rest.still; syncs = rest.syncs ∙ act.sync_when }

  pub quiet_until : (a b : FileState S) (xs : List Cycle) (q : Phase) (fault : BusFault) → honest a.store ≡ true → LeadTo (shown held a).flash.geometry (shown held a).phase xs q
      → SentUntil (ActsOnCycle held honest failed) a xs fault b → held b.store ≡ held a.store
  quiet_until a b [] q fault h l s = absurd s
  quiet_until a b (x ∷ xs) q fault h l (inl s) =
      let act : ActsOverStore held honest failed (due_of (held a.store).geometry a.phase x) a b (Err fault) = s.1 in
      subst (λ due. Leaves due (shown held a).flash a.sync_when (held a.store) false (held b.store)) l.1 (act.leaves h)
  quiet_until a b (x ∷ xs) q fault h l (inr s) =
      let m : FileState S = s.0 in
      let act : ActsOverStore held honest failed (due_of (held a.store).geometry a.phase x) a m (Ok tt) = s.2 in
      let at : shown held m ≡ to_phase l.0 (shown held a) =
      moved (shown held a) (shown held m) (due_of (held a.store).geometry a.phase x) l.0 l.1 (act.follows h) in
      let same : held m.store ≡ held a.store = subst (λ due. Leaves due (shown held a).flash a.sync_when (held a.store) true (held m.store)) l.1 (act.leaves h) in
      quiet_until m b xs q fault (act.as_honest ∙ h) (subst (λ (d : DieState). LeadTo d.flash.geometry d.phase xs q) (sym at) l.3) s.3 ∙ same

  pub until_sized : (a b : FileState S) (xs : List Cycle) (fault : BusFault) → SentUntil (ActsOnCycle held honest failed) a xs fault b → (held b.store).geometry ≡ (held a.store).geometry
  until_sized a b [] fault s = absurd s
  until_sized a b (x ∷ xs) fault (inl s) = s.1.geometry
  until_sized a b (x ∷ xs) fault (inr s) = until_sized s.0 b xs fault s.3 ∙ s.2.geometry

  pub until_kept : (a b : FileState S) (xs : List Cycle) (fault : BusFault) → SentUntil (ActsOnCycle held honest failed) a xs fault b → (honest b.store ≡ honest a.store) × (b.sync_when ≡ a.sync_when)
  until_kept a b [] fault s = absurd s
  until_kept a b (x ∷ xs) fault (inl s) = (s.1.as_honest, s.1.sync_when)
  until_kept a b (x ∷ xs) fault (inr s) = (let rest = until_kept s.0 b xs fault s.3 in (rest.0 ∙ s.2.as_honest, rest.1 ∙ s.2.sync_when))

  pub sent_kept : (a b : FileState S) (xs : List Cycle) (out : List ℕ) → Sent (ActsOnCycle held honest failed) a xs out b → honest b.store ≡ honest a.store
  sent_kept a b [] out s = ap (λ (d : FileState S). honest d.store) s.1
  sent_kept a b (x ∷ xs) out s = sent_kept s.0 b xs s.2 s.5 ∙ s.4.as_honest

  -- a program or an erase, whatever its answer, leaves the store honest
  pub operates_kept : (a b : FileState S) (xs : List Cycle) (result : Result Outcome BusFault) → Operates (ActsOnCycle held honest failed) a xs result b → honest b.store ≡ honest a.store
  operates_kept a b xs result (inl sent) = sent_kept a b xs (sent.0 ∷ []) sent.2
  operates_kept a b xs result (inr refused) = (until_kept a b xs refused.0 refused.2).0

  -- over an honest store each cycle is a step of the protocol
  pub sent_taken : (a b : FileState S) (xs : List Cycle) (out : List ℕ) → honest a.store ≡ true → Sent (ActsOnCycle held honest failed) a xs out b → Taken (shown held a) xs (shown held b)
  sent_taken a b [] out h s = ap (shown held) s.1
  sent_taken a b (x ∷ xs) out h s = (shown held s.0, s.4.follows h, sent_taken s.0 b xs s.2 (s.4.as_honest ∙ h) s.5)

  pub until_fails : (a b : FileState S) (xs : List Cycle) (fault : BusFault) → honest a.store ≡ true → SentUntil (ActsOnCycle held honest failed) a xs fault b → FailsIn (shown held a) xs fault (shown held b)
  until_fails a b [] fault h s = absurd s
  until_fails a b (x ∷ xs) fault h (inl s) = inl (s.1.follows h)
  until_fails a b (x ∷ xs) fault h (inr s) = inr (shown held s.0, s.2.follows h, until_fails s.0 b xs fault (s.2.as_honest ∙ h) s.3)

  -- what an operation left in the store
  pub record Took (due : Due) (a b : FileState S) : Type 0 where
    pub leaves : Leaves due (shown held a).flash a.sync_when (held a.store) true (held b.store)
    pub geometry : (held b.store).geometry ≡ (held a.store).geometry
    pub still : honest b.store ≡ true
    pub syncs : b.sync_when ≡ a.sync_when

  -- a confirm cycle and the status byte
  confirmed : (a b : FileState S) (code : ℕ) (due : Due) (out : List ℕ) → honest a.store ≡ true → command_due (shown held a).flash.geometry (shown held a).phase code ≡ due → IsConfirm due
      → Sent (ActsOnCycle held honest failed) a (confirm_cycles code) out b → Took due a b
  confirmed a b code due out h is con s =
      let m : FileState S = s.0 in
      let act : ActsOverStore held honest failed (command_due (held a.store).geometry a.phase code) a m (Ok tt) = s.4 in
      let does : Does due (shown held a) (shown held m) = subst (λ d. Does d (shown held a) (shown held m)) is (act.follows h) in
      let at : (shown held m).phase ≡ Ready NoOutput = confirm_ready due (shown held a) (shown held m) con does in
      let leaves : Leaves due (shown held a).flash a.sync_when (held a.store) true (held m.store) =
      subst (λ d. Leaves d (shown held a).flash a.sync_when (held a.store) true (held m.store)) is (act.leaves h) in
      let rest = quiet m b (Command 0x70 ∷ DataOut 1 ∷ []) s.2 (Ready StatusOut) (act.as_honest ∙ h)
      (subst (λ p. LeadTo (shown held m).flash.geometry p (Command 0x70 ∷ DataOut 1 ∷ []) (Ready StatusOut)) (sym at) (status_leads (shown held m).flash.geometry NoOutput)) s.5 in
      record {
        leaves = subst (λ t. Leaves due (shown held a).flash a.sync_when (held a.store) true t) (sym rest.store) leaves;
        geometry = ap (λ (t : Held). t.geometry) rest.store ∙ act.geometry;
        still = rest.still;
        syncs = rest.syncs ∙ act.sync_when;
      }

  -- from after quiet cycles to before them
  before : (a m : FileState S) (q : Phase) (due : Due) (done : Bool) (t : Held) → Quiet a m q → Leaves due (shown held m).flash m.sync_when (held m.store) done t
      → Leaves due (shown held a).flash a.sync_when (held a.store) done t
  before a m q due done t calm leaves =
      subst (λ s. Leaves due (shown held a).flash a.sync_when s done t) calm.store
      (subst (λ w. Leaves due (shown held a).flash w (held m.store) done t) calm.syncs
      (subst (λ (d : DieState). Leaves due d.flash m.sync_when (held m.store) done t) calm.shows leaves))

  -- cycles that lead to a confirm cycle, and that
  pub operated : (a b : FileState S) (front : List Cycle) (p : Phase) (code : ℕ) (due : Due) (out : List ℕ) → honest a.store ≡ true → LeadTo (shown held a).flash.geometry (shown held a).phase front p
      → command_due (shown held a).flash.geometry p code ≡ due → IsConfirm due → Sent (ActsOnCycle held honest failed) a (front ++ confirm_cycles code) out b → Took due a b
  operated a b front p code due out h lead is con s =
      let t = sent_split (ActsOnCycle held honest failed) a b front (confirm_cycles code) out s in
      let calm = quiet a t.0 front t.1 p h lead t.3 in
      let took = confirmed t.0 b code due t.2 calm.still (ap (λ (d : DieState). command_due d.flash.geometry d.phase code) calm.shows ∙ is) con t.4 in
      record {
        leaves = before a t.0 p due true (held b.store) calm took.leaves;
        geometry = took.geometry ∙ ap (λ (s : Held). s.geometry) calm.store;
        still = took.still;
        syncs = took.syncs ∙ calm.syncs;
      }

  -- the same up to a cycle that was refused: the operation was not begun; or it was done, or failed
  refused_in : (a b : FileState S) (code : ℕ) (due : Due) (fault : BusFault) → honest a.store ≡ true → command_due (shown held a).flash.geometry (shown held a).phase code ≡ due → IsConfirm due
      → SentUntil (ActsOnCycle held honest failed) a (confirm_cycles code) fault b → (done : Bool) × Leaves due (shown held a).flash a.sync_when (held a.store) done (held b.store)
  refused_in a b code due fault h is con (inl s) =
      let act : ActsOverStore held honest failed (command_due (held a.store).geometry a.phase code) a b (Err fault) = s.1 in (
        false,
        subst (λ d. Leaves d (shown held a).flash a.sync_when (held a.store) false (held b.store)) is (act.leaves h),
      )
  refused_in a b code due fault h is con (inr s) =
      let m : FileState S = s.0 in
      let act : ActsOverStore held honest failed (command_due (held a.store).geometry a.phase code) a m (Ok tt) = s.2 in
      let does : Does due (shown held a) (shown held m) = subst (λ d. Does d (shown held a) (shown held m)) is (act.follows h) in
      let at : (shown held m).phase ≡ Ready NoOutput = confirm_ready due (shown held a) (shown held m) con does in
      let lead : LeadTo (shown held m).flash.geometry (shown held m).phase (Command 0x70 ∷ DataOut 1 ∷ []) (Ready StatusOut) =
      subst (λ p. LeadTo (shown held m).flash.geometry p (Command 0x70 ∷ DataOut 1 ∷ []) (Ready StatusOut)) (sym at) (status_leads (shown held m).flash.geometry NoOutput) in
      let same : held b.store ≡ held m.store = quiet_until m b (Command 0x70 ∷ DataOut 1 ∷ []) (Ready StatusOut) fault (act.as_honest ∙ h) lead s.3 in (
        true,
        subst (λ d. Leaves d (shown held a).flash a.sync_when (held a.store) true (held b.store)) is
            (subst (λ t. Leaves (command_due (held a.store).geometry a.phase code) (shown held a).flash a.sync_when (held a.store) true t) (sym same) (act.leaves h)),
      )

  pub until_operated : (a b : FileState S) (front : List Cycle) (p : Phase) (code : ℕ) (due : Due) (fault : BusFault) → honest a.store ≡ true → LeadTo (shown held a).flash.geometry (shown held a).phase front p
      → command_due (shown held a).flash.geometry p code ≡ due → IsConfirm due → SentUntil (ActsOnCycle held honest failed) a (front ++ confirm_cycles code) fault b
      → (held b.store ≡ held a.store) ⊎ ((done : Bool) × Leaves due (shown held a).flash a.sync_when (held a.store) done (held b.store))
  until_operated a b front p code due fault h lead is con s = elim (until_split (ActsOnCycle held honest failed) a b front (confirm_cycles code) fault s) [
    | inl first ↦ inl (quiet_until a b front p fault h lead first)
    | inr second ↦
        let calm = quiet a second.0 front second.1 p h lead second.2 in
        let cut = refused_in second.0 b code due fault calm.still (ap (λ (d : DieState). command_due d.flash.geometry d.phase code) calm.shows ∙ is) con second.3 in
        inr (cut.0, before a second.0 p due cut.0 (held b.store) calm cut.1)
  ]
