use Rattle.sccache_script_tool.proofs.source.source_of.Goals as goal

pub returns : goal.returns
returns c = rw (c.tree.ensures, c.of.ensures) at c.source_by.ensures
