use Rattle.std.proofs.Common.{refl, sym, ap, ◌∙◌, arith}
use Rattle.clock_words.specs.declared.view.View.{View}
use Rattle.clock_words.proofs.Asked.{fetch_asked, fetch_told}
use Rattle.clock_words.proofs.DueWords.{due_short}
use Rattle.clock_words.proofs.Rows.{fetch_nothing, next_word}
use Rattle.clock_words.proofs.steps.load_words.Goals as goal

pub loop-i-init : goal.loop-i-init
loop-i-init g c = record {
  same = (refl, refl);
  view = ap (λ (v : View). (v, c.args.place.now.me.1))
      (sym (fetch_nothing c.args.slot c.args.place.now.me.0));
  words = refl;
}

pub load-requires : goal.load-requires
load-requires g c =
    fetch_asked _ _ _ _ _ c.args.slot c.args.from _ c.loop-i.i _ c.args.place.now c.requires.seat
    c.requires.shape c.requires.within c.requires.slot c.requires.are_due (omega arith)
    c.loop-i.invariant.same.0 c.loop-i.invariant.view c.area_place.ensures

pub loop-i-preserved : goal.loop-i-preserved
loop-i-preserved g c =
    let told = fetch_told _ _ c.loop-i.place _ _ c.args.slot c.args.from _ c.loop-i.i _ _
    c.args.place.now _
    c.requires.seat c.requires.shape c.requires.within c.requires.are_due (omega arith)
    c.loop-i.invariant.view c.area_place.ensures c.load.ensures.2 in record {
      same = (
        c.load.ensures.0 ∙ c.loop-i.invariant.same.0,
        c.load.ensures.1 ∙ c.loop-i.invariant.same.1,
      );
      view = told.0;
      words = next_word c.loop-i.out _ c.args.from c.loop-i.i c.load.result (omega arith)
          (due_short _ _ _ _ c.requires.are_due (omega arith)) c.loop-i.invariant.words told.1;
    }
