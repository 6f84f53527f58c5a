-- A range of bytes, piece by piece.
use Rattle.std.proofs.Common.{◌≡◌, ◌≤◌, ◌+◌, ◌-◌, add-zero, inl, ℕ, Bool, false, List, [], ◌++◌, length, take, drop, replicate, Ok, Err, refl, sym, ap, ◌∙◌, subst, arith, append-nil}
use Rattle.std.proofs.lemmas.List.{length-replicate, length-take-le, replicate-append-replicate, take-append-drop}
use Rattle.std.proofs.lemmas.Slice.{take-put_mid}
use Rattle.std.proofs.Math.Seq.{take-add}
use borrow.Rule.Slice.PartMut.{put_mid}
use Rattle.nbd_stream.specs.declared.reply.RequestError.{RequestError}
use Rattle.nbd_stream.specs.declared.task.Task.TheVariants.{Read, Write, Trim}
use Rattle.nbd_stream.specs.Disk.{Contents, PerformsTask}
use Rattle.disk_server.proofs.ReadingLemmas.{done_as_is}
use Rattle.disk_server.proofs.Joining.{range_long, read_more, trim_writes, write_then}

-- the piece of so many from a place on, as a slice of it is lent
abbrev pub piece : (k m : ℕ) → List ℕ → List ℕ
piece k m all = take ((k + m) - k) (drop k all)

fronts : (k m : ℕ) (all : List ℕ) → take k all ++ piece k m all ≡ take (k + m) all
fronts k m all =
    let same : (k + m) - k ≡ m = omega arith in
    ap (λ (i : ℕ). take k all ++ take i (drop k all)) same ∙ sym (take-add k m all)

module _ {D : Type 0} (contents : D → Contents) (honest calm : D → Bool) where
  module _ (all : List ℕ) (o k m j : ℕ) (old mid new : D) (within : k + m ≤ length all) (fits : o + length all ≤ length (contents old).bytes)
      (one : PerformsTask contents honest calm (Write o k false) (take k all) old (Ok []) mid) where
    front_long : length (take k all) ≡ k
    front_long = length-take-le k all (omega (arith, within))

    pub front_written : PerformsTask contents honest calm (Write (o + k) j false) (piece k m all) mid (Ok []) new → PerformsTask contents honest calm (Write o (k + m) false) (take (k + m) all) old (Ok []) new
    front_written two =
        let whole : (take k all ++ piece k m all) ++ [] ≡ take (k + m) all = append-nil (take k all ++ piece k m all) ∙ fronts k m all in
        let long : length ((take k all ++ piece k m all) ++ []) ≡ k + m = ap (λ (l : List ℕ). length l) whole ∙ length-take-le (k + m) all within in
        subst (λ (l : List ℕ). PerformsTask contents honest calm (Write o (k + m) false) l old (Ok []) new) whole
        (write_then contents honest calm (take k all) (piece k m all) [] o k (k + m) j (o + k) old mid new (Ok []) (omega (arith, front_long)) (omega (arith, long, within, fits)) one two refl)

    pub front_stopped : (n : ℕ) (e : RequestError) → PerformsTask contents honest calm (Write (o + k) j false) (piece k m all) mid (Err e) new
        → PerformsTask contents honest calm (Write o n false) all old (Err e) new
    front_stopped n e two =
        let rest : List ℕ = drop (k + m) all in
        let whole : (take k all ++ piece k m all) ++ rest ≡ all = ap (λ (l : List ℕ). l ++ rest) (fronts k m all) ∙ take-append-drop (k + m) all in
        let long : length ((take k all ++ piece k m all) ++ rest) ≡ length all = ap (λ (l : List ℕ). length l) whole in
        subst (λ (l : List ℕ). PerformsTask contents honest calm (Write o n false) l old (Err e) new) whole
        (write_then contents honest calm (take k all) (piece k m all) rest o k n j (o + k) old mid new (Err e) (omega (arith, front_long)) (omega (arith, long, fits)) one two tt)

  -- ---- zeros

  -- no byte is set
  pub nothing_set : (o : ℕ) (d : D) → PerformsTask contents honest calm (Write o 0 false) (replicate 0 0) d (Ok []) d
  nothing_set o d = done_as_is contents honest calm (Write o 0 false) (replicate 0 0) d refl (λ h. record {
    done = sym (ap (λ (k : ℕ). take o (contents d).bytes ++ drop k (contents d).bytes) (add-zero o) ∙ take-append-drop o (contents d).bytes);
    gave = refl;
    torn = tt;
    stays = λ p. inl refl;
    lasts = λ p no. (let never : ⊥ = cc in absurd never);
  })

  module _ (n o k m : ℕ) (old mid new : D) (within : k + m ≤ n) (fits : o + n ≤ length (contents old).bytes)
      (one : PerformsTask contents honest calm (Write o k false) (replicate k 0) old (Ok []) mid) where
    zeros_long : (i : ℕ) → length (replicate {A = ℕ} i 0) ≡ i
    zeros_long i = length-replicate {A = ℕ} i 0

    pub zeros_written : PerformsTask contents honest calm (Trim (o + k) m false) [] mid (Ok []) new → PerformsTask contents honest calm (Write o (k + m) false) (replicate (k + m) 0) old (Ok []) new
    zeros_written two =
        let whole : (replicate k 0 ++ replicate m 0) ++ [] ≡ replicate {A = ℕ} (k + m) 0 = append-nil (replicate k 0 ++ replicate m 0) ∙ replicate-append-replicate k m 0 in
        let long : length ((replicate {A = ℕ} k 0 ++ replicate m 0) ++ []) ≡ k + m = ap (λ (l : List ℕ). length l) whole ∙ zeros_long (k + m) in
        subst (λ (l : List ℕ). PerformsTask contents honest calm (Write o (k + m) false) l old (Ok []) new) whole
        (write_then contents honest calm (replicate k 0) (replicate m 0) [] o k (k + m) m (o + k) old mid new (Ok []) (omega (arith, zeros_long k)) (omega (arith, long, within, fits)) one
        (trim_writes contents honest calm (o + k) m false mid new (Ok []) two) refl)

    pub zeros_stopped : (e : RequestError) → PerformsTask contents honest calm (Trim (o + k) m false) [] mid (Err e) new → PerformsTask contents honest calm (Write o n false) (replicate n 0) old (Err e) new
    zeros_stopped e two =
        let left : ℕ = n - (k + m) in
        let counted : (k + m) + left ≡ n = omega (arith, within) in
        let whole : (replicate k 0 ++ replicate m 0) ++ replicate left 0 ≡ replicate {A = ℕ} n 0 =
        ap (λ (l : List ℕ). l ++ replicate left 0) (replicate-append-replicate k m 0) ∙ replicate-append-replicate (k + m) left 0 ∙ ap (λ (i : ℕ). replicate i 0) counted in
        let long : length ((replicate {A = ℕ} k 0 ++ replicate m 0) ++ replicate left 0) ≡ n = ap (λ (l : List ℕ). length l) whole ∙ zeros_long n in
        subst (λ (l : List ℕ). PerformsTask contents honest calm (Write o n false) l old (Err e) new) whole
        (write_then contents honest calm (replicate k 0) (replicate m 0) (replicate left 0) o k n m (o + k) old mid new (Err e) (omega (arith, zeros_long k)) (omega (arith, long, fits)) one
        (trim_writes contents honest calm (o + k) m false mid new (Err e) two) tt)

  -- ---- reads

  pub front_given : (out given : List ℕ) (o k m : ℕ) (old mid new : D) → k + m ≤ length out → PerformsTask contents honest calm (Read o k) [] old (Ok (take k out)) mid
      → PerformsTask contents honest calm (Read (o + k) (length (piece k m out))) [] mid (Ok given) new
      → PerformsTask contents honest calm (Read o (k + m)) [] old (Ok (take (k + m) (put_mid k ((k + m) - k) out given))) new
  front_given out given o k m old mid new within one two =
      let long : length (piece k m out) ≡ m = range_long k m out within in
      let given_long : length given ≡ m = two.given ∙ long in
      let two' = subst (λ (i : ℕ). PerformsTask contents honest calm (Read (o + k) i) [] mid (Ok given) new) long two in
      subst (λ (l : List ℕ). PerformsTask contents honest calm (Read o (k + m)) [] old (Ok l) new)
      (sym (take-put_mid k ((k + m) - k) out given (k + m) (omega (arith, given_long)) (omega (arith, within))))
      (read_more contents honest calm (take k out) given o k m (o + k) old mid new refl one two')
