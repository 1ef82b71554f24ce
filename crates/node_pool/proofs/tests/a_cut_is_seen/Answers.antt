use Rattle.std.proofs.Common.{◌≡◌, ◌∙◌, [], ◌∷◌, List, true, Ok, ap, subst, arith}
use Rattle.ip_core.specs.declared.row.Row.{Row}
use Rattle.cut_derive.specs.Derivations.{derived_row}
use Rattle.work_stamp.specs.declared.entry.Entry.TheVariants.{Cut, CutStart}
use Rattle.node_pool.specs.Lemmas.Joining.{joins_at}
use Rattle.node_pool.specs.Runs.{without_keys}
use Rattle.node_pool.specs.Views.{View, after_entry}
use Rattle.node_pool.proofs.tests.a_cut_is_seen.Goals as goal

pub absorb-requires-2 : goal.absorb-requires-2
absorb-requires-2 c =
    let m = c.args.model.now in
    let d = c.in_ok-derivation.derivation in
    let is = c.in_ok-absorb.ensures
    ∙ ap (λ (v : View). after_entry m v CutStart) c.in_ok-pool.ensures in
    joins_at m (record { cuts = true; heuristics = true }) (without_keys (CutStart ∷ []))
    c.absorb.new.self (Cut d) is
    (record {
      short = omega arith;
      joins = record {
        few = omega arith;
        row = c.in-Ok.row;
        derived = subst (λ (cuts : List Row). derived_row m cuts d ≡ Ok c.in-Ok.row)
            (c.cuts.ensures ∙ ap (λ (v : View). v.cuts) is) c.in-Ok.ensures;
      };
    })
