use Rattle.std.proofs.Common.{refl, sym, ap, ◌∙◌, arith}
use Rattle.clock_words.specs.declared.view.View.{View}
use Rattle.clock_words.proofs.Asked.{put_asked, put_told}
use Rattle.clock_words.proofs.Rows.{next_within, put_nothing}
use Rattle.clock_words.proofs.steps.store_words.Goals as goal

pub loop-i-init : goal.loop-i-init
loop-i-init g c = record {
  same = (refl, refl);
  view = ap (λ (v : View). (v, c.args.place.now.me.1)) (sym (put_nothing c.args.place.now.me.0));
}

pub area_place-requires-clause-k : goal.area_place-requires-clause-k
area_place-requires-clause-k g c =
    next_within _ c.args.slot c.args.written _ c.loop-i.i _ c.args.next.now c.requires.within
    c.requires.next (omega arith)

pub store-requires : goal.store-requires
store-requires g c =
    put_asked _ _ _ _ _ c.args.slot c.args.written c.loop-i.i _ _ c.args.next.now c.args.place.now
    c.requires.seat c.requires.shape c.requires.within c.requires.slot.0 c.requires.slot.1
    c.requires.written c.requires.next (omega arith) refl c.loop-i.invariant.same.0
    c.loop-i.invariant.view c.area_place.ensures

pub loop-i-preserved : goal.loop-i-preserved
loop-i-preserved g c = record {
  same = (
    c.store.ensures.0 ∙ c.loop-i.invariant.same.0,
    c.store.ensures.1 ∙ c.loop-i.invariant.same.1,
  );
  view = put_told c.loop-i.i c.args.place.now c.loop-i.place _ c.loop-i.invariant.view
      c.store.ensures.2;
}
