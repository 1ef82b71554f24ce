use Rattle.std.proofs.Common.{◌<◌, List, sym, subst}
use Rattle.commit_order.specs.Queues.{Queue}
use Rattle.version_store.specs.Absorbing.{CanAbsorb, HasAbsorbed}
use Rattle.version_store.proofs.Taken.{absorbed_all, absorbed_next, next_joins, total, total_less}
use Rattle.version_store.proofs.absorbing.absorb_below.Goals as goal

pub absorb-requires-clause-follows : goal.absorb-requires-clause-follows
absorb-requires-clause-follows g c =
    let t = g.T.Tasker in
    let a = c.args.tasker.now in
    next_joins g.row.T-View.Denot g.row.T-Local.Denot (t.rules a) (t.fits_view a) (t.fits_local a) (t.may_follow a) (t.agrees a) (g.met.T.Tasker.lawful a) c.args.limits.now c.requires.ranges c.args.key c.loop-taken.playing c.loop-taken.invariant.can c.in-Some.taken c.in-Some.ensures.least

pub loop-taken-smaller : goal.loop-taken-smaller
loop-taken-smaller g c =
    let less = total_less c.loop-taken.playing.merge c.args.key c.in-Some.taken c.in-Some.ensures.least in
    subst (λ (q : List Queue). total q < total c.loop-taken.playing.merge) (sym c.in-Some.ensures.left) less

pub loop-taken-preserved : goal.loop-taken-preserved
loop-taken-preserved g c =
    let t = g.T.Tasker in
    let a = c.args.tasker.now in
    record {
      can = subst (λ (q : List Queue). CanAbsorb (t.rules a) (t.fits_view a) c.args.limits.now c.args.key (record c.loop-taken.playing { view = c.absorb.new.view; merge = q; mine = c.keep_own.new.mine })) (sym c.in-Some.ensures.left)
          (absorbed_next g.row.T-View.Denot g.row.T-Local.Denot (t.rules a) (t.fits_view a) (t.fits_local a) (t.may_follow a) (t.agrees a) (g.met.T.Tasker.lawful a) c.args.limits.now c.requires.ranges c.args.key c.loop-taken.playing c.loop-taken.invariant.can c.in-Some.taken c.in-Some.ensures.least c.absorb.new.view c.keep_own.new.mine c.in_ok-absorb.ensures c.in_ok-keep_own.ensures);
      heard = c.loop-taken.invariant.heard;
      slot = c.loop-taken.invariant.slot;
      moves = c.loop-taken.invariant.moves;
    }

pub returns : goal.returns
returns g c =
    let t = g.T.Tasker in
    let a = c.args.tasker.now in
    let h = absorbed_all g.row.T-View.Denot g.row.T-Local.Denot (t.rules a) (t.fits_view a) (t.fits_local a) (t.may_follow a) (t.agrees a) (g.met.T.Tasker.lawful a) c.args.limits.now c.requires.ranges c.args.key c.loop-taken.playing c.loop-taken.invariant.can c.in_default.ensures.least in
    let done : HasAbsorbed (t.rules a) (t.fits_view a) c.args.limits.now c.args.key c.args.playing c.loop-taken.playing = record {
      at = h.at;
      view_is = h.view_is;
      done_is = h.done_is;
      heard_stays = c.loop-taken.invariant.heard;
      slot_stays = c.loop-taken.invariant.slot;
      moves_stay = c.loop-taken.invariant.moves;
    } in
    subst (λ (q : List Queue). HasAbsorbed (t.rules a) (t.fits_view a) c.args.limits.now c.args.key c.args.playing (record c.loop-taken.playing { merge = q })) (sym c.in_default.ensures.left) done
