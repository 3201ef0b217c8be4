mod StageLaws
