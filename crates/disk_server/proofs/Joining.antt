-- A task in parts, one call after another.
use Rattle.std.proofs.Common.{◌≡◌, ◌<◌, ◌≤◌, ◌+◌, ◌-◌, ◌*◌, ◌/◌, ◌%◌, ◌⊎◌, inl, inr, ℕ, Bool, true, false, List, [], ◌++◌, length, take, drop, replicate}
use Rattle.std.proofs.Common.{Result, Ok, Err, refl, sym, ap, ◌∙◌, subst, arith, append_assoc, append-nil, length-append, length-drop}
use Rattle.std.specs.Prelude.{slice_index, slice_range, IfErr, IfOk, OnOk, OnErr}
use Rattle.std.proofs.lemmas.List.{ext_get_or, length-take-le}
use Rattle.nbd_stream.specs.declared.reply.RequestError.{RequestError}
use Rattle.nbd_stream.specs.declared.task.Task.{Task}
use Rattle.nbd_stream.specs.declared.task.Task.TheVariants.{Read, Write, Trim}
use Rattle.nbd_stream.specs.Disk.{Contents, IsOldOrDue, MayFailWith, PerformsTask, TaskSteps, count_given, with_bytes}
use Rattle.disk_server.proofs.Bytes.{front_either, lent_back, part_read, part_set, place_is, range_more, sector_fits, set_same, with_more}
use Rattle.disk_server.proofs.ReadingLemmas.{by_answer}

abbrev pub Answer : Type 0
Answer = Result (List ℕ) RequestError

-- ---- answers

ok_then : {P Q : Type 0} (answer : Answer) → OnOk answer P → (P → Q) → OnOk answer Q
ok_then (Ok bytes) is then = then is
ok_then (Err e) is then = tt

ok_both : {P Q R : Type 0} (answer : Answer) → OnOk answer P → OnOk answer Q → (P → Q → R) → OnOk answer R
ok_both (Ok bytes) is is' then = then is is'
ok_both (Err e) is is' then = tt

err_then : {P Q : Type 0} (answer : Answer) → OnErr answer P → (P → Q) → OnErr answer Q
err_then (Ok bytes) is then = tt
err_then (Err e) is then = then is

any_ok : {P : Type 0} (answer : Answer) → P → OnOk answer P
any_ok (Ok bytes) is = is
any_ok (Err e) is = tt

-- ---- the bytes after two steps

-- each byte after the first step, and what the second is to leave, is as it was or as both are to leave it
pub record Between (due next : List ℕ) (s m : Contents) : Type 0 where
  pub first : (p : ℕ) → IsOldOrDue s.bytes due m.bytes p
  pub second : (p : ℕ) → IsOldOrDue s.bytes due next p

along : (was due mid now : List ℕ) (p : ℕ) → IsOldOrDue was due mid p → slice_index now p ≡ slice_index mid p → IsOldOrDue was due now p
along was due mid now p (inl is) same = inl (same ∙ is)
along was due mid now p (inr is) same = inr (same ∙ is)

module _ (due next : List ℕ) (s m : Contents) (between : Between due next s m) where
  torn_then : (now : List ℕ) (p : ℕ) → IsOldOrDue m.bytes next now p → IsOldOrDue s.bytes due now p
  torn_then now p (inl is) = along s.bytes due m.bytes now p (between.first p) is
  torn_then now p (inr is) = along s.bytes due next now p (between.second p) is

  stays_then : (t : Contents) (p : ℕ) → (slice_index m.durable p ≡ slice_index s.durable p) ⊎ IsOldOrDue s.bytes due m.durable p
      → (slice_index t.durable p ≡ slice_index m.durable p) ⊎ IsOldOrDue m.bytes next t.durable p
      → (slice_index t.durable p ≡ slice_index s.durable p) ⊎ IsOldOrDue s.bytes due t.durable p
  stays_then t p (inl was) (inl is) = inl (is ∙ was)
  stays_then t p (inr was) (inl is) = inr (along s.bytes due m.durable t.durable p was is)
  stays_then t p was (inr is) = inr (torn_then t.durable p is)

-- ---- a range, and the one behind it

module _ (front piece rest : List ℕ) (o place : ℕ) (s m : Contents) (at : place ≡ o + length front) (fits : o + length ((front ++ piece) ++ rest) ≤ length s.bytes)
    (is : m.bytes ≡ with_bytes o front s.bytes) where
  fits_both : o + length (front ++ piece) ≤ length s.bytes
  fits_both = omega (arith, length-append (front ++ piece) rest, fits)

  both_are : with_bytes place piece m.bytes ≡ with_bytes o (front ++ piece) s.bytes
  both_are = ap (with_bytes place piece) is ∙ with_more front piece s.bytes o place at fits_both

  grouped : (front ++ piece) ++ rest ≡ front ++ (piece ++ rest)
  grouped = append_assoc front piece rest

  front_is : (now : List ℕ) (p : ℕ) → IsOldOrDue s.bytes (with_bytes o (front ++ (piece ++ rest)) s.bytes) (with_bytes o front s.bytes) p
      → now ≡ with_bytes o front s.bytes → IsOldOrDue s.bytes (with_bytes o ((front ++ piece) ++ rest) s.bytes) now p
  front_is now p either same =
      subst (λ (l : List ℕ). IsOldOrDue s.bytes (with_bytes o l s.bytes) now p) (sym grouped)
      (subst (λ (l : List ℕ). IsOldOrDue s.bytes (with_bytes o (front ++ (piece ++ rest)) s.bytes) l p) (sym same) either)

  more_between : Between (with_bytes o ((front ++ piece) ++ rest) s.bytes) (with_bytes place piece m.bytes) s m
  more_between = record {
    first = λ p. front_is m.bytes p (front_either front (piece ++ rest) s.bytes o p (subst (λ (l : List ℕ). o + length l ≤ length s.bytes) grouped fits)) is;
    second = λ p. subst (λ (l : List ℕ). IsOldOrDue s.bytes (with_bytes o ((front ++ piece) ++ rest) s.bytes) l p) (sym both_are)
        (front_either (front ++ piece) rest s.bytes o p fits);
  }

  front_first : (p : ℕ) → (slice_index m.durable p ≡ slice_index s.durable p) ⊎ IsOldOrDue s.bytes (with_bytes o front s.bytes) m.durable p
      → (slice_index m.durable p ≡ slice_index s.durable p) ⊎ IsOldOrDue s.bytes (with_bytes o ((front ++ piece) ++ rest) s.bytes) m.durable p
  front_first p (inl was) = inl was
  front_first p (inr (inl was)) = inr (inl was)
  front_first p (inr (inr was)) =
      inr (along s.bytes (with_bytes o ((front ++ piece) ++ rest) s.bytes) m.bytes m.durable p (more_between.first p)
      (was ∙ sym (ap (λ (l : List ℕ). slice_index l p) is)))

-- the first is set, and the next one as this answers; what comes after it is let be
pub steps_more : (front piece rest : List ℕ) (o k n j place : ℕ) (s m t : Contents) (answer : Answer)
    → place ≡ o + length front → o + length ((front ++ piece) ++ rest) ≤ length s.bytes
    → TaskSteps (Write o k false) front s (Ok []) m → TaskSteps (Write place j false) piece m answer t → OnOk answer (rest ≡ [])
    → TaskSteps (Write o n false) ((front ++ piece) ++ rest) s answer t
steps_more front piece rest o k n j place s m t answer at fits one two last =
    let due : List ℕ = with_bytes o ((front ++ piece) ++ rest) s.bytes in
    let next : List ℕ = with_bytes place piece m.bytes in
    let between : Between due next s m = more_between front piece rest o place s m at fits one.done in
    let none : rest ≡ [] → (front ++ piece) ++ rest ≡ front ++ piece = λ e. ap (λ (l : List ℕ). (front ++ piece) ++ l) e ∙ append-nil (front ++ piece) in
    record {
      done = ok_both answer two.done last (λ is e. is ∙ both_are front piece rest o place s m at fits one.done ∙ ap (λ (l : List ℕ). with_bytes o l s.bytes) (sym (none e)));
      gave = two.gave;
      torn = err_then answer two.torn (λ torn p. torn_then due next s m between t.bytes p (torn p));
      stays = λ p. stays_then due next s m between t p (front_first front piece rest o place s m at fits one.done p (one.stays p)) (two.stays p);
      lasts = any_ok answer (λ p no. (let never : ⊥ = cc in absurd never));
    }

-- ---- a sector that is read first

pub range_long : (start m : ℕ) (bytes : List ℕ) → start + m ≤ length bytes → length (slice_range bytes start (start + m)) ≡ m
range_long start m bytes fits = length-take-le ((start + m) - start) (drop start bytes) (omega (arith, length-drop start bytes, fits)) ∙ omega arith

-- a byte that stays is as it was, whatever is due
unread : (due was now : List ℕ) (p : ℕ) → IsOldOrDue was was now p → IsOldOrDue was due now p
unread due was now p (inl is) = inl is
unread due was now p (inr is) = inl is

unread_stays : (due was lasted now : List ℕ) (p : ℕ) → (slice_index now p ≡ slice_index lasted p) ⊎ IsOldOrDue was was now p
    → (slice_index now p ≡ slice_index lasted p) ⊎ IsOldOrDue was due now p
unread_stays due was lasted now p (inl is) = inl is
unread_stays due was lasted now p (inr is) = inr (unread due was now p is)

-- what is due of the bytes after the first step, where it left them as they were
same_between : (due next : List ℕ) (s m : Contents) → m.bytes ≡ s.bytes → next ≡ due → Between due next s m
same_between due next s m same is = record {
  first = λ p. inl (ap (λ (l : List ℕ). slice_index l p) same);
  second = λ p. inr (ap (λ (l : List ℕ). slice_index l p) is);
}

steps_part : (part sector : List ℕ) (base start size n offset : ℕ) (s m t : Contents) (answer : Answer)
    → start + length part ≤ size → base + size ≤ length s.bytes → offset ≡ base + start
    → TaskSteps (Read base size) [] s (Ok sector) m → TaskSteps (Write base size false) (with_bytes start part sector) m answer t → TaskSteps (Write offset n false) part s answer t
steps_part part sector base start size n offset s m t answer within fits at one two =
    let due : List ℕ = with_bytes offset part s.bytes in
    let next : List ℕ = with_bytes base (with_bytes start part sector) m.bytes in
    let is : next ≡ due =
    ap (λ (l : List ℕ). with_bytes base (with_bytes start part sector) l) one.done ∙ ap (λ (l : List ℕ). with_bytes base (with_bytes start part l) s.bytes) one.gave
    ∙ part_set part s.bytes base start size offset within fits at in
    let between : Between due next s m = same_between due next s m one.done is in
    record {
      done = ok_then answer two.done (λ same. same ∙ is);
      gave = two.gave;
      torn = err_then answer two.torn (λ torn p. torn_then due next s m between t.bytes p (torn p));
      stays = λ p. stays_then due next s m between t p (unread_stays due s.bytes s.durable m.durable p (one.stays p)) (two.stays p);
      lasts = any_ok answer (λ p no. (let never : ⊥ = cc in absurd never));
    }

-- a sector that was read, whatever came of it, is as it was
same_bytes : (o n : ℕ) (s t : Contents) (answer : Answer) → length t.bytes ≡ length s.bytes → TaskSteps (Read o n) [] s answer t → t.bytes ≡ s.bytes
same_bytes o n s t answer long steps = ext_get_or 0 t.bytes s.bytes long (λ p within. by_answer o n s t answer steps p)

-- so a trim behind that is one of what was there
steps_then : (o n o' n' : ℕ) (s m t : Contents) (answer answer' : Answer) → length m.bytes ≡ length s.bytes
    → TaskSteps (Read o n) [] s answer m → TaskSteps (Trim o' n' false) [] m answer' t → TaskSteps (Trim o' n' false) [] s answer' t
steps_then o n o' n' s m t answer answer' long one two =
    let due : List ℕ = with_bytes o' (replicate n' 0) s.bytes in
    let next : List ℕ = with_bytes o' (replicate n' 0) m.bytes in
    let is : next ≡ due = ap (with_bytes o' (replicate n' 0)) (same_bytes o n s m answer long one) in
    let between : Between due next s m = same_between due next s m (same_bytes o n s m answer long one) is in
    record {
      done = ok_then answer' two.done (λ e. e ∙ is);
      gave = two.gave;
      torn = err_then answer' two.torn (λ torn p. torn_then due next s m between t.bytes p (torn p));
      stays = λ p. stays_then due next s m between t p (unread_stays due s.bytes s.durable m.durable p (one.stays p)) (two.stays p);
      lasts = any_ok answer' (λ p no. (let never : ⊥ = cc in absurd never));
    }

-- what the first step left is due
done_between : (due : List ℕ) (s m : Contents) → m.bytes ≡ due → Between due m.bytes s m
done_between due s m is = record {
  first = λ p. inr (ap (λ (l : List ℕ). slice_index l p) is);
  second = λ p. inr (ap (λ (l : List ℕ). slice_index l p) is);
}

-- ---- reads, one behind another

steps_read_more : (front piece : List ℕ) (o k m place : ℕ) (s i t : Contents) → place ≡ o + k
    → TaskSteps (Read o k) [] s (Ok front) i → TaskSteps (Read place m) [] i (Ok piece) t → TaskSteps (Read o (k + m)) [] s (Ok (front ++ piece)) t
steps_read_more front piece o k m place s i t at one two =
    let between : Between s.bytes i.bytes s i = done_between s.bytes s i one.done in
    record {
      done = two.done ∙ one.done;
      gave = ap (λ (l : List ℕ). l ++ piece) one.gave
          ∙ ap (λ (l : List ℕ). slice_range s.bytes o (o + k) ++ l) (two.gave ∙ ap (λ (l : List ℕ). slice_range l place (place + m)) one.done)
          ∙ range_more s.bytes o k m place at;
      torn = tt;
      stays = λ p. stays_then s.bytes i.bytes s i between t p (one.stays p) (two.stays p);
      lasts = λ p no. (let never : ⊥ = cc in absurd never);
    }

-- ---- one task of two calls

module _ {D : Type 0} (contents : D → Contents) (honest calm : D → Bool) where
  abbrev Does : Task → List ℕ → D → Answer → D → Type 0
  Does task body old answer new = PerformsTask contents honest calm task body old answer new

  -- a call that was done, and another behind it, are one of a task that does what both do, and may be answered as the second
  done_then : (first second task : Task) (front back body given : List ℕ) (old mid new : D) (answer : Answer) → Does first front old (Ok given) mid → Does second back mid answer new
      → (IfErr answer (MayFailWith second) → IfErr answer (MayFailWith task)) → (IfOk answer (λ bytes. length bytes ≡ count_given second) → IfOk answer (λ bytes. length bytes ≡ count_given task))
      → (honest new ≡ true → TaskSteps task body (contents old) answer (contents new)) → Does task body old answer new
  done_then first second task front back body given old mid new answer one two may counts does = record {
    sized = two.sized ∙ one.sized;
    kept = ok_then answer two.kept (λ is. is ∙ one.kept);
    back = λ h. one.back (two.back h);
    calm_is = two.calm_is ∙ one.calm_is;
    fault = may two.fault;
    given = counts two.given;
    calmly = λ h. two.calmly (one.calm_is ∙ h);
    steps = does;
  }

  module _ (front piece rest : List ℕ) (o k n j place : ℕ) (old mid new : D) (answer : Answer) (at : place ≡ o + length front)
      (fits : o + length ((front ++ piece) ++ rest) ≤ length (contents old).bytes)
      (one : Does (Write o k false) front old (Ok []) mid) (two : Does (Write place j false) piece mid answer new) where
    pub write_then : OnOk answer (rest ≡ []) → Does (Write o n false) ((front ++ piece) ++ rest) old answer new
    write_then last =
        done_then (Write o k false) (Write place j false) (Write o n false) front piece ((front ++ piece) ++ rest) [] old mid new answer one two (λ may. may) (λ long. long)
        (λ h. steps_more front piece rest o k n j place (contents old) (contents mid) (contents new) answer at fits (one.steps (two.back h)) (two.steps h) last)

  -- a sector was read, and is written with a part of it changed
  pub part_written : (part sector : List ℕ) (base start size n offset : ℕ) (old mid new : D) (answer : Answer)
      → start + length part ≤ size → base + size ≤ length (contents old).bytes → offset ≡ base + start
      → Does (Read base size) [] old (Ok sector) mid → Does (Write base size false) (with_bytes start part sector) mid answer new
      → Does (Write offset n false) part old answer new
  part_written part sector base start size n offset old mid new answer within fits at one two =
      done_then (Read base size) (Write base size false) (Write offset n false) [] (with_bytes start part sector) part sector old mid new answer one two (λ may. may) (λ long. long)
      (λ h. steps_part part sector base start size n offset (contents old) (contents mid) (contents new) answer within fits at (one.steps (two.back h)) (two.steps h))

  -- ---- zeros

  -- a call of one task is one of another that does the same, and may answer it
  pub as_task : (task other : Task) (body bytes : List ℕ) (old new : D) (answer : Answer) → (IfErr answer (MayFailWith task) → IfErr answer (MayFailWith other))
      → (IfOk answer (λ given. length given ≡ count_given task) → IfOk answer (λ given. length given ≡ count_given other))
      → (TaskSteps task body (contents old) answer (contents new) → TaskSteps other bytes (contents old) answer (contents new)) → Does task body old answer new → Does other bytes old answer new
  as_task task other body bytes old new answer may counts does is = record {
    sized = is.sized;
    kept = is.kept;
    back = is.back;
    calm_is = is.calm_is;
    fault = may is.fault;
    given = counts is.given;
    calmly = is.calmly;
    steps = λ h. does (is.steps h);
  }

  -- a trim is a write of zeros
  pub trim_writes : (o n : ℕ) (durable : Bool) (old new : D) (answer : Answer) → Does (Trim o n durable) [] old answer new → Does (Write o n durable) (replicate n 0) old answer new
  trim_writes o n durable old new answer =
      as_task (Trim o n durable) (Write o n durable) [] (replicate n 0) old new answer (λ may. may) (λ long. long) (λ its. record { done = its.done; gave = its.gave; torn = its.torn; stays = its.stays; lasts = its.lasts })

  pub writes_trim : (o n : ℕ) (durable : Bool) (old new : D) (answer : Answer) → Does (Write o n durable) (replicate n 0) old answer new → Does (Trim o n durable) [] old answer new
  writes_trim o n durable old new answer =
      as_task (Write o n durable) (Trim o n durable) (replicate n 0) [] old new answer (λ may. may) (λ long. long) (λ its. record { done = its.done; gave = its.gave; torn = its.torn; stays = its.stays; lasts = its.lasts })

  -- a sector was read, and is trimmed then
  pub read_then : (o n o' n' : ℕ) (old mid new : D) (answer answer' : Answer) → OnOk answer' (honest mid ≡ honest old)
      → Does (Read o n) [] old answer mid → Does (Trim o' n' false) [] mid answer' new → Does (Trim o' n' false) [] old answer' new
  read_then o n o' n' old mid new answer answer' same one two = record {
    sized = two.sized ∙ one.sized;
    kept = ok_both answer' two.kept same (λ is is'. is ∙ is');
    back = λ h. one.back (two.back h);
    calm_is = two.calm_is ∙ one.calm_is;
    fault = two.fault;
    given = two.given;
    calmly = λ h. two.calmly (one.calm_is ∙ h);
    steps = λ h. steps_then o n o' n' (contents old) (contents mid) (contents new) answer answer' one.sized (one.steps (two.back h)) (two.steps h);
  }

  -- zeros that were read are what a trim would leave
  pub read_clears : (o n : ℕ) (old new : D) → o + n ≤ length (contents old).bytes → Does (Read o n) [] old (Ok (replicate n 0)) new → Does (Trim o n false) [] old (Ok []) new
  read_clears o n old new fits one = record {
    sized = one.sized;
    kept = one.kept;
    back = one.back;
    calm_is = one.calm_is;
    fault = tt;
    given = refl;
    calmly = λ h. refl;
    steps = λ h.
        let its = one.steps h in
        let s : List ℕ = (contents old).bytes in
        let due : List ℕ = with_bytes o (replicate n 0) s in
        let is : due ≡ s = ap (λ (l : List ℕ). with_bytes o l s) its.gave ∙ set_same s o n fits in
        record {
          done = its.done ∙ sym is;
          gave = refl;
          torn = tt;
          stays = λ p. unread_stays due s (contents old).durable (contents new).durable p (its.stays p);
          lasts = λ p no. (let never : ⊥ = cc in absurd never);
        };
  }

  -- ---- reads

  -- the bytes of a part of the sector that was read
  pub part_given : (sector : List ℕ) (base start m size offset : ℕ) (old new : D)
      → start + m ≤ size → base + size ≤ length (contents old).bytes → offset ≡ base + start → length sector ≡ size
      → Does (Read base size) [] old (Ok sector) new → Does (Read offset m) [] old (Ok (slice_range sector start (start + m))) new
  part_given sector base start m size offset old new within fits at long one = record {
    sized = one.sized;
    kept = one.kept;
    back = one.back;
    calm_is = one.calm_is;
    fault = tt;
    given = range_long start m sector (omega (arith, long, within));
    calmly = λ h. refl;
    steps = λ h. let its = one.steps h in record {
      done = its.done;
      gave = ap (λ (l : List ℕ). slice_range l start (start + m)) its.gave ∙ part_read (contents old).bytes base start m size offset within fits at;
      torn = tt;
      stays = its.stays;
      lasts = λ p no. (let never : ⊥ = cc in absurd never);
    };
  }

  pub read_more : (front piece : List ℕ) (o k m place : ℕ) (old mid new : D) → place ≡ o + k
      → Does (Read o k) [] old (Ok front) mid → Does (Read place m) [] mid (Ok piece) new
      → Does (Read o (k + m)) [] old (Ok (front ++ piece)) new
  read_more front piece o k m place old mid new at one two = record {
    sized = two.sized ∙ one.sized;
    kept = two.kept ∙ one.kept;
    back = λ h. one.back (two.back h);
    calm_is = two.calm_is ∙ one.calm_is;
    fault = tt;
    given = length-append front piece ∙ ap (λ (i : ℕ). i + length piece) one.given ∙ ap (λ (i : ℕ). k + i) two.given;
    calmly = λ h. refl;
    steps = λ h. steps_read_more front piece o k m place (contents old) (contents mid) (contents new) at (one.steps (two.back h)) (two.steps h);
  }

  -- ---- a piece of one sector, as the code finds it

  -- A PLACE IN ITS SECTOR: the sector begins so far on, and the piece stands so far in it
  module _ (offset z size size' count n : ℕ) (old mid new : D) (z_is : z ≡ size) (size_is : size' ≡ size)
      (whole : length (contents old).bytes ≡ count * size) (within : offset / z < count)
      (inside : offset % size + n ≤ size) where
    start_is : offset % z ≡ offset % size
    start_is = ap (λ (k : ℕ). offset % k) z_is

    sector_within : (offset / z) * size + size ≤ length (contents old).bytes
    sector_within = sector_fits (offset / z) count size (length (contents old).bytes) within whole

    stands_at : offset ≡ (offset / z) * size + offset % size
    stands_at = place_is offset size ∙ ap (λ (k : ℕ). (offset / k) * size + offset % size) (sym z_is)

    pub piece_written : (part sector : List ℕ) (k : ℕ) (answer : Answer) → n ≡ length part → k ≡ n
        → Does (Read ((offset / z) * size) size) [] old (Ok sector) mid
        → Does (Write ((offset / z) * size') size' false) (take (offset % z) sector ++ (part ++ drop k (drop (offset % z) sector))) mid answer new
        → Does (Write offset n false) part old answer new
    piece_written part sector k answer long long' one two =
        let body : take (offset % z) sector ++ (part ++ drop k (drop (offset % z) sector)) ≡ with_bytes (offset % size) part sector =
        lent_back (offset % z) k part sector (long' ∙ long) ∙ ap (λ (i : ℕ). with_bytes i part sector) start_is in
        let two' = subst (λ (i : ℕ). Does (Write ((offset / z) * i) i false) (take (offset % z) sector ++ (part ++ drop k (drop (offset % z) sector))) mid answer new) size_is two in
        let two'' = subst (λ (l : List ℕ). Does (Write ((offset / z) * size) size false) l mid answer new) body two' in
        part_written part sector ((offset / z) * size) (offset % size) size n offset old mid new answer (omega (arith, inside, long)) sector_within stands_at one two''

    pub piece_given : (sector given : List ℕ) → length sector ≡ size → given ≡ take ((offset % z + n) - offset % z) (drop (offset % z) sector)
        → Does (Read ((offset / z) * size) size) [] old (Ok sector) new → Does (Read offset n) [] old (Ok given) new
    piece_given sector given long is one =
        let same : given ≡ slice_range sector (offset % size) (offset % size + n) = is ∙ ap (λ (i : ℕ). slice_range sector i (i + n)) start_is in
        subst (λ (l : List ℕ). Does (Read offset n) [] old (Ok l) new) (sym same)
        (part_given sector ((offset / z) * size) (offset % size) n size offset old new inside sector_within stands_at long one)

    pub piece_clears : (sector : List ℕ) → length sector ≡ size → take ((offset % z + n) - offset % z) (drop (offset % z) sector) ≡ replicate n 0
        → Does (Read ((offset / z) * size) size) [] old (Ok sector) new → Does (Trim offset n false) [] old (Ok []) new
    piece_clears sector long are one =
        read_clears offset n old new (omega (arith, sector_within, stands_at, start_is, inside)) (piece_given sector (replicate n 0) long (sym are) one)
