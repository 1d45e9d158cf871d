-- Star and the wall over a range of subjects, where it is one subject or all: the laws of both in one set for the tactics.
-- Assumes nothing.
use Rattle.star.proofs.Between.{between-one, between-all}
use Rattle.wall.proofs.Between.{wall-one, wall-all}

pub ruleset ranges = (between-one, between-all, wall-one, wall-all)
