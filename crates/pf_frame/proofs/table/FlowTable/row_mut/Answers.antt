use Rattle.std.proofs.Common.{refl, ◌∙◌}
use Rattle.pf_frame.proofs.Rows.{row_is, row_written}
use Rattle.pf_frame.proofs.table.FlowTable.row_mut.Goals as goal

pub returns : goal.returns
returns c = (
  (refl, λ w. row_written c.self.inside.rows.items c.args.self.now c.args.i c.index_mut-row.result.now w c.self.view_is c.index_mut-row.ensures.value c.requires),
  record {
    writes_back = tt;
    value = c.as_mut_slice.ensures.value ∙ row_is c.self.inside.rows.items c.args.self.now c.args.i c.index_mut-row.result.now c.self.view_is c.index_mut-row.ensures.value c.requires;
  },
)
