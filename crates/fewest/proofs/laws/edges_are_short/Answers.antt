use Rattle.fewest.proofs.Edges.{edge_sends, edge_kept, edge_lines}
use Rattle.fewest.proofs.laws.edges_are_short.Goals as goal

pub returns : goal.returns
returns c = record { sends = edge_sends; kept = edge_kept; lines = edge_lines }
