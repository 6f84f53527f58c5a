-- Logs of an engine's operations.
use Rattle.std.proofs.Common.{◌≡◌, ◌≢◌, inl, inr, ℕ, ◌+◌, ◌*◌, ◌/◌, ◌%◌, ◌<◌, min, Bool, true, not, List, [], ◌∷◌, ◌++◌, Option, Some, None, refl, ap, sym, ◌∙◌, subst, arith}
use Rattle.std.proofs.lemmas.Bool.{cases_eq}
use Rattle.std.proofs.lemmas.Nat.{div-mul-add, mod-mul-add}
use Rattle.page_layout.specs.declared.geometry.Geometry.{Geometry}
use Rattle.page_layout.specs.Page.{Page}
use Rattle.page_layout.specs.Flash.{Flash, Operation, Program, Erase}
use Rattle.page_layout.specs.Recording.{Recording, Records}
use Rattle.page_layout.proofs.FlashLemmas.{Leads-append, Leads-one}
use Rattle.page_layout.proofs.RecordingLemmas.{records_join, records_none}
use Rattle.bad_blocks.specs.declared.table.TableRow.{TableRow}
use Rattle.bad_blocks.specs.Table.{is_good, is_good_at, wear_at, most_wear}
use Rattle.allocation.specs.State.{State, pointer_at}
use Rattle.promises.specs.Log.{passed_erases_of, programs_in}
use Rattle.promises.specs.Legal.{Account, account_at, account_after, accounted, accounted_all, LegalFrom}
use Rattle.promises.proofs.LogLemmas.{counts}
use Rattle.promises.proofs.AccountLemmas.{length-accounted, accounted-same, accounted-other}
use Rattle.promises.proofs.LegalLemmas.{accounts_join, legal_append}
use Rattle.onfi_cycles.specs.declared.nand.Outcome.{Outcome}
use Rattle.onfi_cycles.specs.Outcomes.{is_passed}
use Rattle.collection.specs.State.{Ram}
use Rattle.collection.specs.Log.{IsAccounted, FollowsLog, NumbersFrom, NumbersJoinLaw, Went}
use Rattle.collection.specs.Results.{IsStep}
use Rattle.collection.proofs.Blocks.{IsMade}

-- ---- one program

-- the blocks after a program of the block's next page
pub record HasFollowed (block : ℕ) (passed : Bool) (old new : State) : Type 0 where
  pub is_block : block < old.geometry.blocks
  pub was_good : is_good_at old.table block ≡ true
  pub room : pointer_at old block < old.geometry.pages
  pub made : IsMade block old new
  pub good : is_good_at new.table block ≡ passed
  pub pointer : pointer_at new block ≡ pointer_at old block + 1
  pub wear : wear_at new.table block ≡ wear_at old.table block

-- by the accounts afterwards the bad blocks are barred, where the block's account tells whether the operation of it passed and the other accounts stay
pub barred_by : (block : ℕ) (passed : Bool) (old new : State) (accounts : List Account) (after : ℕ → Account) → IsMade block old new → is_good_at new.table block ≡ passed → (after block).barred ≡ not passed
    → ((b : ℕ) → b ≢ block → after b ≡ account_at accounts b) → IsAccounted accounts old → (b : ℕ) → b < old.geometry.blocks → (after b).barred ≡ not (is_good_at new.table b)
barred_by block passed old new accounts after made good here there a b within = elim (cases_eq b block) [
  | inl same ↦ ap (λ k. (after k).barred) same ∙ (here ∙ (ap not (sym good) ∙ ap (λ k. not (is_good_at new.table k)) (sym same)))
  | inr ne ↦ ap (λ (x : Account). x.barred) (there b ne) ∙ (a.barred b within ∙ ap (λ (x : TableRow). not (is_good x)) (sym (made.others b ne).row))
]

module _ (block row : ℕ) (p left : Page) (passed : Bool) (old new : State) (h : HasFollowed block passed old new) (row_is : row ≡ block * old.geometry.pages + pointer_at old block) where
  op : Operation
  op = Program row p passed left

  block_is : row / old.geometry.pages ≡ block
  block_is = ap (λ k. k / old.geometry.pages) row_is ∙ div-mul-add block old.geometry.pages (pointer_at old block) h.room

  page_is : row % old.geometry.pages ≡ pointer_at old block
  page_is = ap (λ k. k % old.geometry.pages) row_is ∙ mod-mul-add block old.geometry.pages (pointer_at old block) h.room

  program_legal : (accounts : List Account) → IsAccounted accounts old → LegalFrom old.geometry.pages accounts (Program row p passed left ∷ [])
  program_legal accounts a = (
    record {
      good = ap (λ k. (account_at accounts k).barred) block_is ∙ (a.barred block h.is_block ∙ ap not h.was_good);
      next = ap (λ k. (account_at accounts k).next) block_is ∙ (a.next block h.is_block h.was_good ∙ sym page_is);
    },
    tt,
  )

  program_accounted : (accounts : List Account) → IsAccounted accounts old → IsAccounted (accounted old.geometry.pages accounts (Program row p passed left)) new
  program_accounted accounts a = record {
    size = length-accounted old.geometry.pages accounts (Program row p passed left) ∙ (a.size ∙ ap (λ g. g.blocks) (sym h.made.geometry));
    barred = λ b within. barred b (rw (← h.made.geometry) within);
    next = λ b within good. next b (rw (← h.made.geometry) within) good;
  }
    where
      after : ℕ → Account
      after b = account_at (accounted old.geometry.pages accounts (Program row p passed left)) b

      here : after block ≡ account_after (account_at accounts block) (Program row p passed left)
      here = accounted-same old.geometry.pages accounts (Program row p passed left) block block_is (omega (arith, a.size, h.is_block))

      there : (b : ℕ) → b ≢ block → after b ≡ account_at accounts b
      there b ne = accounted-other old.geometry.pages accounts (Program row p passed left) b (λ e. ne (sym e ∙ block_is))

      barred : (b : ℕ) → b < old.geometry.blocks → (after b).barred ≡ not (is_good_at new.table b)
      barred b within = barred_by block passed old new accounts after h.made h.good (ap (λ (x : Account). x.barred) here) there a b within

      next : (b : ℕ) → b < old.geometry.blocks → is_good_at new.table b ≡ true → (after b).next ≡ pointer_at new b
      next b within good = elim (cases_eq b block) [
        | inl same ↦ ap (λ k. (after k).next) same ∙ (ap (λ (x : Account). x.next) here ∙ (ap (λ n. n + 1) (a.next block h.is_block h.was_good) ∙ (sym h.pointer ∙ ap (pointer_at new) (sym same))))
        | inr ne ↦ ap (λ (x : Account). x.next) (there b ne) ∙ (a.next b within (ap is_good (sym (h.made.others b ne).row) ∙ good) ∙ sym (h.made.others b ne).pointer)
      ]

  pub program_follows : FollowsLog old.geometry.pages (Program row p passed left ∷ []) old new
  program_follows = record { legal = program_legal; accounted = program_accounted }

-- ---- logs

-- one log after another
numbers_apart : (next : ℕ) (xs ys : List Operation) → NumbersFrom next (xs ++ ys) → NumbersFrom next xs × NumbersFrom (next + programs_in xs) ys
numbers_apart next [] ys h = (tt, subst (λ n. NumbersFrom n ys) (let e : next ≡ next + 0 = omega arith in e) h)
numbers_apart next (Program row page passed left ∷ xs) ys h =
    let rest = numbers_apart (next + 1) xs ys h.1 in
    ((h.0, rest.0), subst (λ n. NumbersFrom n ys) (let e : next + 1 + programs_in xs ≡ next + (programs_in xs + 1) = omega arith in e) rest.1)
numbers_apart next (Erase block passed left ∷ xs) ys h = numbers_apart next xs ys h

numbers_after : (next : ℕ) (xs ys : List Operation) → NumbersFrom next xs → NumbersFrom (next + programs_in xs) ys → NumbersFrom next (xs ++ ys)
numbers_after next [] ys h k = subst (λ n. NumbersFrom n ys) (let e : next + 0 ≡ next = omega arith in e) k
numbers_after next (Program row page passed left ∷ xs) ys h k =
    (h.0, numbers_after (next + 1) xs ys h.1 (subst (λ n. NumbersFrom n ys) (let e : next + (programs_in xs + 1) ≡ next + 1 + programs_in xs = omega arith in e) k))
numbers_after next (Erase block passed left ∷ xs) ys h k = numbers_after next xs ys h k

pub numbers_join : NumbersJoinLaw
numbers_join next xs ys = (numbers_apart next xs ys, λ h. numbers_after next xs ys h.0 h.1)

pub went_same : (r : Ram) (s : Flash) (told : Option Recording) → Went r s told r s told
went_same r s told = record { log = []; leads = refl; records = records_none told; follows = record { legal = λ accounts a. tt; accounted = λ accounts a. a }; next = omega arith; wears = record { worn = λ b most. omega arith }; numbers = tt }

pub went_one : (old new : Ram) (before after : Flash) (told told' : Option Recording) (block row : ℕ) (outcome : Outcome)
    → IsStep row old.next outcome before told after told' → old.blocks.geometry ≡ old.geometry
    → HasFollowed block (is_passed outcome) old.blocks new.blocks → row ≡ block * old.blocks.geometry.pages + pointer_at old.blocks block
    → new.next ≡ old.next + 1 → Went old before told new after told'
went_one old new before after told told' block row outcome step same h row_is next = record {
  log = Program row step.its (is_passed outcome) step.left ∷ [];
  leads = Leads-one before after (Program row step.its (is_passed outcome) step.left) step.step;
  records = step.records;
  follows = (let P : Geometry → Type 0 = λ g. FollowsLog g.pages (Program row step.its (is_passed outcome) step.left ∷ []) old.blocks new.blocks in subst P same (program_follows block row step.its step.left (is_passed outcome) old.blocks new.blocks h row_is));
  next = next;
  wears = record {
    worn = λ b most. elim (cases_eq b block) [
      | inl at ↦ (let e : wear_at new.blocks.table b ≡ wear_at old.blocks.table b = ap (wear_at new.blocks.table) at ∙ (h.wear ∙ ap (wear_at old.blocks.table) (sym at)) in omega arith)
      | inr ne ↦ (let e : wear_at new.blocks.table b ≡ wear_at old.blocks.table b = ap (λ (x : TableRow). x.wear) (h.made.others b ne).row in omega arith)
    ];
  };
  numbers = (step.numbered, tt);
}

pub went_then : (a b c : Ram) (x y z : Flash) (rx ry rz : Option Recording) → b.geometry ≡ a.geometry → Went a x rx b y ry → Went b y ry c z rz → Went a x rx c z rz
went_then a b c x y z rx ry rz same v w =
    let follows : FollowsLog a.geometry.pages w.log b.blocks c.blocks = (let P : Geometry → Type 0 = λ g. FollowsLog g.pages w.log b.blocks c.blocks in subst P same w.follows) in
    record {
      log = v.log ++ w.log;
      leads = Leads-append x y z v.log w.log v.leads w.leads;
      records = records_join rx ry rz v.log w.log v.records w.records;
      follows = record {
        legal = λ accounts s. legal_append a.geometry.pages accounts v.log w.log (v.follows.legal accounts s) (follows.legal (accounted_all a.geometry.pages accounts v.log) (v.follows.accounted accounts s));
        accounted = λ accounts s. rw (accounts_join a.geometry.pages accounts v.log w.log) (follows.accounted (accounted_all a.geometry.pages accounts v.log) (v.follows.accounted accounts s));
      };
      next = omega (arith, v.next, w.next, (counts a.geometry.pages 0 v.log w.log).programs);
      wears = record {
        worn = λ k most.
            let first : wear_at b.blocks.table k ≡ min (wear_at a.blocks.table k + passed_erases_of v.log k) most_wear = v.wears.worn k most in
            let second : wear_at c.blocks.table k ≡ min (wear_at b.blocks.table k + passed_erases_of w.log k) most_wear = w.wears.worn k (omega arith) in
            omega (arith, (counts a.geometry.pages k v.log w.log).passed_erases_at);
      };
      numbers = numbers_after a.next v.log w.log v.numbers (subst (λ n. NumbersFrom n w.log) v.next w.numbers);
    }
