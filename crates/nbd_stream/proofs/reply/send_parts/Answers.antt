use Rattle.std.proofs.Common.{◌≡◌, ◌<◌, ◌≤◌, ℕ, zero, suc, List, [], ◌∷◌, ◌++◌, length, take, drop, get_or, refl, ap, ◌∙◌, subst, arith, append_assoc, append-nil}
use Rattle.std.specs.List.{flat_map}
use Rattle.std.specs.Io.KnownBytes.{Appends}
use Rattle.std.proofs.lemmas.List.{take_all}
use Rattle.std.proofs.lemmas.Result.{err_from_is_err_and}
use Rattle.request_stream.proofs.Writing.{front_more, front_stop, part_front, sends_then}
use Rattle.nbd_stream.proofs.StreamEnds.{on_err, on_ok}
use Rattle.nbd_stream.proofs.reply.send_parts.Goals as goal

-- the parts before one, it, and those after it
parts_split : {X : Type 0} (f : X → List ℕ) (ps : List X) (i : ℕ) (d : X) → i < length ps → (flat_map f (take i ps) ++ f (get_or ps i d)) ++ flat_map f (drop (suc i) ps) ≡ flat_map f ps
parts_split f [] i d h = absurd (omega arith)
parts_split f (p ∷ ps) zero d h = refl
parts_split f (p ∷ ps) (suc i) d h =
    let before : List ℕ = flat_map f (take i ps) in
    let one : List ℕ = f (get_or ps i d) in
    let after : List ℕ = flat_map f (drop (suc i) ps) in
    ap (λ (l : List ℕ). l ++ after) (append_assoc (f p) before one) ∙ append_assoc (f p) (before ++ one) after ∙ ap (λ (l : List ℕ). f p ++ l) (parts_split f ps i d (omega arith))

pub returns-in_err-put-clause-sends : goal.returns-in_err-put-clause-sends
returns-in_err-put-clause-sends g c =
    let p = err_from_is_err_and c.from_residual.result c.from_residual.ensures.1 in
    let stopped = c.in_err-put.ensures.sends in
    let i = c.loop-part.part-index in
    let parts = c.args.parts.now in
    let inside : i < length parts = omega arith in
    rw (p.1, p.2) (
      stopped.0,
      front_stop _ _ _ (flat_map (λ part. part.now) (drop (suc i) parts)) (flat_map (λ part. part.now) parts) (parts_split (λ part. part.now) parts i _ inside)
          (front_more _ _ _ (flat_map (λ part. part.now) (take i parts)) _ _ refl c.loop-part.invariant (part_front _ _ _ stopped.1)),
    )

pub returns-clause-sends : goal.returns-clause-sends
returns-clause-sends g c =
    let i = c.loop-part.part-index in
    let parts = c.args.parts.now in
    let past : length parts ≤ i = omega arith in
    let all : List ℕ = flat_map (λ part. part.now) parts in
    sends_then _ _ _ all [] _ c.hand_on.result (append-nil all) (subst (λ ps. Appends (g.W.Write.contents c.args.writer.now) (g.W.Write.contents c.loop-part.writer) (flat_map (λ part. part.now) ps)) (take_all i parts past) c.loop-part.invariant) c.hand_on.ensures.sends

pub returns-in_err-put-clause-fails : goal.returns-in_err-put-clause-fails
returns-in_err-put-clause-fails g c =
    let p = err_from_is_err_and c.from_residual.result c.from_residual.ensures.1 in
    rw p.1 (c.loop-part.writer, c.in_err-put.ensures.fails)

pub returns-in_err-put-clause-hands : goal.returns-in_err-put-clause-hands
returns-in_err-put-clause-hands g c =
    let p = err_from_is_err_and c.from_residual.result c.from_residual.ensures.1 in
    rw p.1 tt

pub returns-clause-fails : goal.returns-clause-fails
returns-clause-fails g c = on_err c.hand_on.result (λ failed. (c.loop-part.writer, failed)) c.hand_on.ensures.fails

pub returns-clause-hands : goal.returns-clause-hands
returns-clause-hands g c = on_ok c.hand_on.result (λ done. (c.loop-part.writer, done)) c.hand_on.ensures.hands
