-- The borrow that is passed, and what its target has accepted.
use Rattle.bolt_commands.proofs.hashed_copy.copy_hashed.Given as goal

abbrev pub ghosts-hash_all : goal.ghosts-hash_all
ghosts-hash_all g a = record { name = a.target.ghost_name; start = g.T.Sink.taken a.target.now }
