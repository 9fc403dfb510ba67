-- `put_run` meets its contract. Assumes nothing.
use mathlib.Core.Path.{refl}
use Rattle.lines.proofs.Runs.{who_room, share_room, feed_room, run_put, run_room}
use Rattle.lines.proofs.setting.put_run.Goals as goal

pub put_who-at-requires : goal.put_who-at-requires
put_who-at-requires c =
    let l = c in let z = l in
    who_room _ z.args.certificate.now _ _ _ _ _ z.args.buf.now refl refl l.run_width-len.ensures.0 l.if-buf-len.false _

pub put_share-end-requires : goal.put_share-end-requires
put_share-end-requires c =
    let p = c.put_who-at in let l = c in let z = l in
    share_room _ _ _ _ _ _ _ z.args.buf.now refl refl l.run_width-len.ensures.0 l.if-buf-len.false _ _ _ p.ensures p.auto.buf

pub bounds-buf-end : goal.bounds-buf-end
bounds-buf-end c =
    let q = c in let p = q in let l = p in let z = l in
    feed_room _ _ _ _ _ _ _ z.args.buf.now refl refl l.run_width-len.ensures.0 l.if-buf-len.false _ _ _ p.put_who-at.ensures p.put_who-at.auto.buf _ _
    q.put_share-end.ensures q.put_share-end.auto.buf

pub returns : goal.returns
returns c =
    let q = c in let p = q in let l = p in let z = l in
    run_put _ _ _ _ _ _ _ z.args.buf.now refl refl l.run_width-len.ensures.0 l.if-buf-len.false _ _ _ p.put_who-at.ensures p.put_who-at.auto.buf _ _
    q.put_share-end.ensures q.put_share-end.auto.buf refl

pub returns-then-buf-len : goal.returns-then-buf-len
returns-then-buf-len c = run_room _ _ _ _ _ _ _ c.args.buf.now refl refl c.run_width-len.ensures.0 c.if-buf-len.true
