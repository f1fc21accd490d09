use Rattle.pf_lines.proofs.FlowRows.{row_of_flow, flow_of_taken}
use Rattle.pf_lines.proofs.taking.take_flow_row.Goals as goal

pub returns-clause-shape : goal.returns-clause-shape
returns-clause-shape c = flow_of_taken c.args.width c.take_row.result c.take_row.ensures.shape

pub returns-clause-found : goal.returns-clause-found
returns-clause-found c = λ flow rest row there. c.take_row.ensures.found flow rest (row_of_flow c.args.width flow row) there
